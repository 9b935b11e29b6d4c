-- States of plans drawn at random, each with the move or the site that an independent model gives.
use Rattle.std.specs.Prelude.{◌≡◌, true, false, [], ◌∷◌, Some, None, refl}
use Rattle.ssh_encoding.specs.Writing.{uint32, uint64, string}
use Rattle.sftp_model.specs.declared.request.Request.TheVariants as request
use Rattle.sftp_model.specs.declared.reply.Reply.TheVariants as reply
use Rattle.sftp_model.specs.declared.outcome.Outcome.TheVariants as outcome
use Rattle.sftp_model.specs.declared.error.Error.TheVariants as error
use Rattle.sftp_model.specs.declared.slot.Move.TheVariants.{Ask, Wait, Done}
use Rattle.sftp_model.specs.Frames.{request_body, attributes}
use Rattle.sftp_model.specs.declared.slot.Slot.TheVariants.{File, Buffered}
use Rattle.sftp_model.specs.Slots.{fresh_site, with_slot}
use Rattle.plan_model.specs.declared.call.Call.TheVariants as call
use Rattle.plan_model.specs.CallPlans.{site_after_cancel, next}
use Rattle.sftp_model.specs.Answers.{status}
use Rattle.plan_model.specs.PlanWords.{known, facts, file_at, entry}

pub hard_link_3 : next (call.HardLink (97 ∷ 47 ∷ 98 ∷ []) [])
    (with_slot (with_slot (with_slot (record fresh_site { directory = (120 ∷ []) }) 0
    (Buffered (file_at 1 true true 18446744073709551615) (record
    { len = 2; bytes = (9 ∷ 125 ∷ 140 ∷ []); deferred = []; reading = None }))) 1
    (Buffered (file_at 1 true true 5) (record { len = 1; bytes = []; deferred = ((2, 3) ∷ []); reading = None }))) 2
    (Buffered (file_at 1 true false 0) (record { len = 1; bytes = (64 ∷ []); deferred = []; reading = None })))
    (facts 10 2 4 3 3) [] (known ((0, (status 0)) ∷ (1, (reply.Handle (1 ∷ 7 ∷ []))) ∷ []))
    ≡ Ask (request.Hardlink (120 ∷ 47 ∷ 97 ∷ 47 ∷ 98 ∷ []) (120 ∷ 47 ∷ []))
unfolding request_body string uint32 uint64 attributes
hard_link_3 = refl

pub hard_link_4 : next (call.HardLink (97 ∷ 98 ∷ []) (47 ∷ []))
    (with_slot (with_slot fresh_site 0 (Buffered (file_at 1 false true 18446744073709551612)
    (record { len = 2; bytes = []; deferred = ((3, 1) ∷ (4, 4) ∷ []); reading = None }))) 2
    (Buffered (file_at 1 true true 18) (record { len = 2; bytes = (151 ∷ []); deferred = []; reading = None })))
    (facts 54 4 2 5 3) ((5, (request.Hardlink (97 ∷ 98 ∷ []) (47 ∷ []))) ∷ [])
    (known ((0, (status 0)) ∷ (1, (reply.Handle (1 ∷ 7 ∷ []))) ∷ (2, (reply.Handle (2 ∷ 7 ∷ []))) ∷ [])) ≡ Wait 5
unfolding request_body string uint32 uint64 attributes
hard_link_4 = refl

pub hard_link_4_left : site_after_cancel (call.HardLink (97 ∷ 98 ∷ []) (47 ∷ []))
    (with_slot (with_slot fresh_site 0 (Buffered (file_at 1 false true 18446744073709551612)
    (record { len = 2; bytes = []; deferred = ((3, 1) ∷ (4, 4) ∷ []); reading = None }))) 2
    (Buffered (file_at 1 true true 18) (record { len = 2; bytes = (151 ∷ []); deferred = []; reading = None })))
    (facts 54 4 2 5 3) ((5, (request.Hardlink (97 ∷ 98 ∷ []) (47 ∷ []))) ∷ [])
    (known ((0, (status 0)) ∷ (1, (reply.Handle (1 ∷ 7 ∷ []))) ∷ (2, (reply.Handle (2 ∷ 7 ∷ []))) ∷ []))
    ≡ (with_slot (with_slot fresh_site 0 (Buffered (file_at 1 false true 18446744073709551612)
    (record { len = 2; bytes = []; deferred = ((3, 1) ∷ (4, 4) ∷ []); reading = None }))) 2
    (Buffered (file_at 1 true true 18) (record { len = 2; bytes = (151 ∷ []); deferred = []; reading = None })))
hard_link_4_left = refl

pub hard_link_5 : next (call.HardLink (97 ∷ 98 ∷ []) []) (with_slot
    (with_slot (with_slot (record fresh_site { directory = (120 ∷ 47 ∷ []) }) 0
    (Buffered (file_at 2 false true 18446744073709551614) (record
    { len = 5; bytes = (153 ∷ 99 ∷ 228 ∷ 223 ∷ []); deferred = ((3, 2) ∷ []); reading = None }))) 1
    (Buffered (file_at 2 true true 3) (record {
      len = 3;
      bytes = (61 ∷ 184 ∷ 192 ∷ []);
      deferred = ((4, 6) ∷ []);
      reading = None;
    }))) 2 (File (file_at 2 false true 18446744073709551615))) (facts 62 3 3 6 1)
    ((5, (request.Hardlink (120 ∷ 47 ∷ 97 ∷ 98 ∷ []) (120 ∷ 47 ∷ []))) ∷ [])
    (known ((0, (status 0)) ∷ (1, (reply.Handle (1 ∷ 7 ∷ []))) ∷ (2, (reply.Handle (2 ∷ 7 ∷ []))) ∷ (3, (status 0)) ∷
    (4, (status 0)) ∷ (5, (status 2)) ∷ [])) ≡ Done (outcome.Refused (error.SftpError 2 [] []))
    (with_slot (with_slot (with_slot (record fresh_site { directory = (120 ∷ 47 ∷ []) }) 0
    (Buffered (file_at 2 false true 18446744073709551614) (record
    { len = 5; bytes = (153 ∷ 99 ∷ 228 ∷ 223 ∷ []); deferred = ((3, 2) ∷ []); reading = None }))) 1
    (Buffered (file_at 2 true true 3) (record {
      len = 3;
      bytes = (61 ∷ 184 ∷ 192 ∷ []);
      deferred = ((4, 6) ∷ []);
      reading = None;
    }))) 2 (File (file_at 2 false true 18446744073709551615)))
unfolding request_body string uint32 uint64 attributes
hard_link_5 = refl

pub hard_link_5_left : site_after_cancel (call.HardLink (97 ∷ 98 ∷ []) [])
    (with_slot (with_slot (with_slot (record fresh_site { directory = (120 ∷ 47 ∷ []) }) 0
    (Buffered (file_at 2 false true 18446744073709551614) (record
    { len = 5; bytes = (153 ∷ 99 ∷ 228 ∷ 223 ∷ []); deferred = ((3, 2) ∷ []); reading = None }))) 1
    (Buffered (file_at 2 true true 3) (record {
      len = 3;
      bytes = (61 ∷ 184 ∷ 192 ∷ []);
      deferred = ((4, 6) ∷ []);
      reading = None;
    }))) 2 (File (file_at 2 false true 18446744073709551615))) (facts 62 3 3 6 1)
    ((5, (request.Hardlink (120 ∷ 47 ∷ 97 ∷ 98 ∷ []) (120 ∷ 47 ∷ []))) ∷ [])
    (known ((0, (status 0)) ∷ (1, (reply.Handle (1 ∷ 7 ∷ []))) ∷ (2, (reply.Handle (2 ∷ 7 ∷ []))) ∷ (3, (status 0)) ∷
    (4, (status 0)) ∷ (5, (status 2)) ∷ [])) ≡ (with_slot (with_slot
    (with_slot (record fresh_site { directory = (120 ∷ 47 ∷ []) }) 0
    (Buffered (file_at 2 false true 18446744073709551614) (record
    { len = 5; bytes = (153 ∷ 99 ∷ 228 ∷ 223 ∷ []); deferred = ((3, 2) ∷ []); reading = None }))) 1
    (Buffered (file_at 2 true true 3) (record {
      len = 3;
      bytes = (61 ∷ 184 ∷ 192 ∷ []);
      deferred = ((4, 6) ∷ []);
      reading = None;
    }))) 2 (File (file_at 2 false true 18446744073709551615)))
hard_link_5_left = refl

pub symlink_1 : next (call.Symlink (97 ∷ 98 ∷ []) (97 ∷ 47 ∷ 98 ∷ []))
    (with_slot (with_slot (record fresh_site { directory = (47 ∷ 120 ∷ []) }) 0 (File (file_at 0 true true 0))) 1
    (File (file_at 1 true true 0))) (facts 60 2 4 5 3) ((
      2,
      (request.Symlink (47 ∷ 120 ∷ 47 ∷ 97 ∷ 98 ∷ [])
          (47 ∷ 120 ∷ 47 ∷ 97 ∷ 47 ∷ 98 ∷ [])),
    ) ∷ []) (known ((0, (reply.Handle (0 ∷ 7 ∷ []))) ∷
    (1, (reply.Handle (1 ∷ 7 ∷ []))) ∷ (2, (status 0)) ∷ [])) ≡ Done outcome.Done
    (with_slot (with_slot (record fresh_site { directory = (47 ∷ 120 ∷ []) }) 0 (File (file_at 0 true true 0))) 1
    (File (file_at 1 true true 0)))
unfolding request_body string uint32 uint64 attributes
symlink_1 = refl

pub symlink_1_left : site_after_cancel (call.Symlink (97 ∷ 98 ∷ []) (97 ∷ 47 ∷ 98 ∷ []))
    (with_slot (with_slot (record fresh_site { directory = (47 ∷ 120 ∷ []) }) 0 (File (file_at 0 true true 0))) 1
    (File (file_at 1 true true 0))) (facts 60 2 4 5 3) ((
      2,
      (request.Symlink (47 ∷ 120 ∷ 47 ∷ 97 ∷ 98 ∷ [])
          (47 ∷ 120 ∷ 47 ∷ 97 ∷ 47 ∷ 98 ∷ [])),
    ) ∷ []) (known ((0, (reply.Handle (0 ∷ 7 ∷ []))) ∷
    (1, (reply.Handle (1 ∷ 7 ∷ []))) ∷ (2, (status 0)) ∷ [])) ≡
    (with_slot (with_slot (record fresh_site { directory = (47 ∷ 120 ∷ []) }) 0 (File (file_at 0 true true 0))) 1
    (File (file_at 1 true true 0)))
symlink_1_left = refl

pub symlink_2 : next (call.Symlink (97 ∷ 47 ∷ 98 ∷ []) (97 ∷ 47 ∷ 98 ∷ []))
    (with_slot (with_slot (with_slot fresh_site 0 (File (file_at 1 true true 5))) 1
    (Buffered (file_at 1 true true 9) (record {
      len = 3;
      bytes = (161 ∷ 194 ∷ 70 ∷ 36 ∷ []);
      deferred = ((3, 2) ∷ []);
      reading = None;
    }))) 2 (Buffered (file_at 1 true false 15) (record
    { len = 3; bytes = (69 ∷ 106 ∷ []); deferred = []; reading = None }))) (facts 31 4 2 5 4)
    ((4, (request.Symlink (97 ∷ 47 ∷ 98 ∷ []) (97 ∷ 47 ∷ 98 ∷ []))) ∷ [])
    (known ((0, (status 0)) ∷ (1, (reply.Handle (1 ∷ 7 ∷ []))) ∷ (2, (reply.Handle (2 ∷ 7 ∷ []))) ∷ (3, (status 0)) ∷
    [])) ≡ Wait 4
unfolding request_body string uint32 uint64 attributes
symlink_2 = refl

pub symlink_2_left : site_after_cancel (call.Symlink (97 ∷ 47 ∷ 98 ∷ []) (97 ∷ 47 ∷ 98 ∷ []))
    (with_slot (with_slot (with_slot fresh_site 0 (File (file_at 1 true true 5))) 1
    (Buffered (file_at 1 true true 9) (record {
      len = 3;
      bytes = (161 ∷ 194 ∷ 70 ∷ 36 ∷ []);
      deferred = ((3, 2) ∷ []);
      reading = None;
    }))) 2 (Buffered (file_at 1 true false 15) (record
    { len = 3; bytes = (69 ∷ 106 ∷ []); deferred = []; reading = None }))) (facts 31 4 2 5 4)
    ((4, (request.Symlink (97 ∷ 47 ∷ 98 ∷ []) (97 ∷ 47 ∷ 98 ∷ []))) ∷ [])
    (known ((0, (status 0)) ∷ (1, (reply.Handle (1 ∷ 7 ∷ []))) ∷ (2, (reply.Handle (2 ∷ 7 ∷ []))) ∷ (3, (status 0)) ∷
    [])) ≡ (with_slot (with_slot (with_slot fresh_site 0 (File (file_at 1 true true 5))) 1
    (Buffered (file_at 1 true true 9) (record {
      len = 3;
      bytes = (161 ∷ 194 ∷ 70 ∷ 36 ∷ []);
      deferred = ((3, 2) ∷ []);
      reading = None;
    }))) 2 (Buffered (file_at 1 true false 15) (record
    { len = 3; bytes = (69 ∷ 106 ∷ []); deferred = []; reading = None })))
symlink_2_left = refl

pub symlink_3 : next (call.Symlink (47 ∷ 97 ∷ []) []) (with_slot
    (with_slot fresh_site 1 (Buffered (file_at 1 false true 5)
    (record { len = 5; bytes = []; deferred = ((2, 4) ∷ []); reading = None }))) 2
    (Buffered (file_at 1 true true 18446744073709551611) (record
    { len = 2; bytes = (63 ∷ []); deferred = []; reading = None }))) (facts 37 1 2 4 2) []
    (known ((0, (status 0)) ∷ (1, (reply.Handle (1 ∷ 7 ∷ []))) ∷ (2, (status 0)) ∷ []))
    ≡ Ask (request.Symlink (47 ∷ 97 ∷ []) [])
unfolding request_body string uint32 uint64 attributes
symlink_3 = refl

pub symlink_4 : next (call.Symlink (97 ∷ []) (97 ∷ [])) (with_slot
    (with_slot (with_slot (record fresh_site { directory = (47 ∷ 120 ∷ []) }) 0 (File (file_at 1 true true 1))) 1
    (Buffered (file_at 1 false true 0) (record { len = 1; bytes = []; deferred = []; reading = None }))) 2
    (File (file_at 1 false true 11))) (facts 55 4 4 3 3) ((
      2,
      (request.Symlink (47 ∷ 120 ∷ 47 ∷ 97 ∷ [])
          (47 ∷ 120 ∷ 47 ∷ 97 ∷ [])),
    ) ∷ []) (known ((0, (status 0)) ∷ (1, (reply.Handle (1 ∷ 7 ∷ []))) ∷ (2, (status 1)) ∷
    [])) ≡ Done (outcome.Refused (error.SftpError 1 [] [])) (with_slot
    (with_slot (with_slot (record fresh_site { directory = (47 ∷ 120 ∷ []) }) 0 (File (file_at 1 true true 1))) 1
    (Buffered (file_at 1 false true 0) (record { len = 1; bytes = []; deferred = []; reading = None }))) 2
    (File (file_at 1 false true 11)))
unfolding request_body string uint32 uint64 attributes
symlink_4 = refl

pub symlink_4_left : site_after_cancel (call.Symlink (97 ∷ []) (97 ∷ []))
    (with_slot (with_slot (with_slot (record fresh_site { directory = (47 ∷ 120 ∷ []) }) 0
    (File (file_at 1 true true 1))) 1 (Buffered (file_at 1 false true 0)
    (record { len = 1; bytes = []; deferred = []; reading = None }))) 2 (File (file_at 1 false true 11)))
    (facts 55 4 4 3 3) ((2, (request.Symlink (47 ∷ 120 ∷ 47 ∷ 97 ∷ []) (47 ∷ 120 ∷ 47 ∷ 97 ∷ []))) ∷ [])
    (known ((0, (status 0)) ∷ (1, (reply.Handle (1 ∷ 7 ∷ []))) ∷ (2, (status 1)) ∷ []))
    ≡ (with_slot (with_slot (with_slot (record fresh_site { directory = (47 ∷ 120 ∷ []) }) 0
    (File (file_at 1 true true 1))) 1 (Buffered (file_at 1 false true 0)
    (record { len = 1; bytes = []; deferred = []; reading = None }))) 2 (File (file_at 1 false true 11)))
symlink_4_left = refl

pub symlink_5 : next (call.Symlink (97 ∷ 47 ∷ 98 ∷ []) (47 ∷ 97 ∷ []))
    (with_slot (with_slot (with_slot (record fresh_site { directory = (47 ∷ 120 ∷ []) }) 0
    (Buffered (file_at 0 false true 2) (record { len = 3; bytes = []; deferred = ((1, 3) ∷ []); reading = None }))) 1
    (File (file_at 0 true false 18446744073709551612))) 2 (Buffered (file_at 0 false true 11)
    (record { len = 1; bytes = []; deferred = []; reading = None }))) (facts 8 3 3 3 2)
    ((2, (request.Symlink (47 ∷ 120 ∷ 47 ∷ 97 ∷ 47 ∷ 98 ∷ []) (47 ∷ 97 ∷ []))) ∷ [])
    (known ((0, (reply.Handle (0 ∷ 7 ∷ []))) ∷ (1, (status 0)) ∷ (2, (status 4)) ∷ []))
    ≡ Done (outcome.Refused (error.SftpError 4 [] [])) (with_slot
    (with_slot (with_slot (record fresh_site { directory = (47 ∷ 120 ∷ []) }) 0
    (Buffered (file_at 0 false true 2) (record { len = 3; bytes = []; deferred = ((1, 3) ∷ []); reading = None }))) 1
    (File (file_at 0 true false 18446744073709551612))) 2 (Buffered (file_at 0 false true 11)
    (record { len = 1; bytes = []; deferred = []; reading = None })))
unfolding request_body string uint32 uint64 attributes
symlink_5 = refl

pub symlink_5_left : site_after_cancel (call.Symlink (97 ∷ 47 ∷ 98 ∷ []) (47 ∷ 97 ∷ []))
    (with_slot (with_slot (with_slot (record fresh_site { directory = (47 ∷ 120 ∷ []) }) 0
    (Buffered (file_at 0 false true 2) (record { len = 3; bytes = []; deferred = ((1, 3) ∷ []); reading = None }))) 1
    (File (file_at 0 true false 18446744073709551612))) 2 (Buffered (file_at 0 false true 11)
    (record { len = 1; bytes = []; deferred = []; reading = None }))) (facts 8 3 3 3 2)
    ((2, (request.Symlink (47 ∷ 120 ∷ 47 ∷ 97 ∷ 47 ∷ 98 ∷ []) (47 ∷ 97 ∷ []))) ∷ [])
    (known ((0, (reply.Handle (0 ∷ 7 ∷ []))) ∷ (1, (status 0)) ∷ (2, (status 4)) ∷ []))
    ≡ (with_slot (with_slot (with_slot (record fresh_site { directory = (47 ∷ 120 ∷ []) }) 0
    (Buffered (file_at 0 false true 2) (record { len = 3; bytes = []; deferred = ((1, 3) ∷ []); reading = None }))) 1
    (File (file_at 0 true false 18446744073709551612))) 2 (Buffered (file_at 0 false true 11)
    (record { len = 1; bytes = []; deferred = []; reading = None })))
symlink_5_left = refl

pub read_link_1 : next (call.ReadLink (47 ∷ [])) (with_slot (with_slot (record fresh_site { directory = (120 ∷ []) }) 0
    (File (file_at 1 true true 18446744073709551612))) 1 (Buffered (file_at 1 true true 18446744073709551613)
    (record { len = 5; bytes = []; deferred = ((3, 7) ∷ []); reading = (Some 4) }))) (facts 19 3 4 7 1)
    ((5, (request.Readlink (47 ∷ []))) ∷ []) (known ((0, (status 0)) ∷ (1, (reply.Handle (1 ∷ 7 ∷ []))) ∷
    (2, (reply.Handle (2 ∷ 7 ∷ []))) ∷ (3, (status 1)) ∷ (4, (status 1)) ∷
    (5, (reply.Names ((entry (126 ∷ [])) ∷ (entry (71 ∷ [])) ∷ []))) ∷ []))
    ≡ Done (outcome.Path (126 ∷ [])) (with_slot (with_slot (record fresh_site { directory = (120 ∷ []) }) 0
    (File (file_at 1 true true 18446744073709551612))) 1 (Buffered (file_at 1 true true 18446744073709551613)
    (record { len = 5; bytes = []; deferred = ((3, 7) ∷ []); reading = (Some 4) })))
unfolding request_body string uint32 uint64 attributes
read_link_1 = refl

pub read_link_1_left : site_after_cancel (call.ReadLink (47 ∷ [])) (with_slot
    (with_slot (record fresh_site { directory = (120 ∷ []) }) 0 (File (file_at 1 true true 18446744073709551612))) 1
    (Buffered (file_at 1 true true 18446744073709551613) (record
    { len = 5; bytes = []; deferred = ((3, 7) ∷ []); reading = (Some 4) }))) (facts 19 3 4 7 1)
    ((5, (request.Readlink (47 ∷ []))) ∷ []) (known ((0, (status 0)) ∷ (1, (reply.Handle (1 ∷ 7 ∷ []))) ∷
    (2, (reply.Handle (2 ∷ 7 ∷ []))) ∷ (3, (status 1)) ∷ (4, (status 1)) ∷
    (5, (reply.Names ((entry (126 ∷ [])) ∷ (entry (71 ∷ [])) ∷ []))) ∷ []))
    ≡ (with_slot (with_slot (record fresh_site { directory = (120 ∷ []) }) 0
    (File (file_at 1 true true 18446744073709551612))) 1 (Buffered (file_at 1 true true 18446744073709551613)
    (record { len = 5; bytes = []; deferred = ((3, 7) ∷ []); reading = (Some 4) })))
read_link_1_left = refl

pub read_link_2 : next (call.ReadLink (97 ∷ [])) (with_slot (with_slot
    (with_slot (record fresh_site { directory = (120 ∷ 47 ∷ []) }) 0 (File (file_at 1 true false 0))) 1
    (Buffered (file_at 1 false true 3) (record { len = 4; bytes = []; deferred = ((2, 2) ∷ []); reading = None }))) 2
    (Buffered (file_at 1 true true 17) (record {
      len = 5;
      bytes = [];
      deferred = ((3, 1) ∷ (4, 5) ∷ []);
      reading =
          None;
    }))) (facts 60 2 2 6 1) [] (known ((0, (status 0)) ∷ (1, (reply.Handle (1 ∷ 7 ∷ []))) ∷ (2, (status 0)) ∷ []))
    ≡ Ask (request.Readlink (120 ∷ 47 ∷ 97 ∷ []))
unfolding request_body string uint32 uint64 attributes
read_link_2 = refl

pub read_link_3 : next (call.ReadLink (97 ∷ [])) (with_slot (with_slot fresh_site 0
    (Buffered (file_at 1 true false 17) (record { len = 1; bytes = []; deferred = []; reading = None }))) 1
    (Buffered (file_at 1 true true 0) (record { len = 2; bytes = []; deferred = []; reading = (Some 2) })))
    (facts 47 5 4 6 4) ((3, (request.Readlink (97 ∷ []))) ∷ [])
    (known ((0, (status 0)) ∷ (1, (reply.Handle (1 ∷ 7 ∷ []))) ∷ [])) ≡ Wait 3
unfolding request_body string uint32 uint64 attributes
read_link_3 = refl

pub read_link_3_left : site_after_cancel (call.ReadLink (97 ∷ [])) (with_slot
    (with_slot fresh_site 0 (Buffered (file_at 1 true false 17)
    (record { len = 1; bytes = []; deferred = []; reading = None }))) 1
    (Buffered (file_at 1 true true 0) (record { len = 2; bytes = []; deferred = []; reading = (Some 2) })))
    (facts 47 5 4 6 4) ((3, (request.Readlink (97 ∷ []))) ∷ [])
    (known ((0, (status 0)) ∷ (1, (reply.Handle (1 ∷ 7 ∷ []))) ∷ []))
    ≡ (with_slot (with_slot fresh_site 0 (Buffered (file_at 1 true false 17)
    (record { len = 1; bytes = []; deferred = []; reading = None }))) 1
    (Buffered (file_at 1 true true 0) (record { len = 2; bytes = []; deferred = []; reading = (Some 2) })))
read_link_3_left = refl

pub read_link_4 : next (call.ReadLink (47 ∷ 97 ∷ [])) (with_slot
    (with_slot (with_slot (record fresh_site { directory = (120 ∷ []) }) 0
    (Buffered (file_at 1 true true 0) (record { len = 3; bytes = []; deferred = ((2, 3) ∷ []); reading = None }))) 1
    (File (file_at 1 false true 18446744073709551615))) 2 (Buffered (file_at 1 true true 4)
    (record { len = 5; bytes = []; deferred = []; reading = (Some 3) }))) (facts 24 5 4 3 4)
    ((4, (request.Readlink (47 ∷ 97 ∷ []))) ∷ []) (known ((0, (status 0)) ∷ (1, (reply.Handle (1 ∷ 7 ∷ []))) ∷
    (2, (status 0)) ∷ (3, (status 4)) ∷ (4, (status 4)) ∷ []))
    ≡ Done (outcome.Refused (error.SftpError 4 [] [])) (with_slot
    (with_slot (with_slot (record fresh_site { directory = (120 ∷ []) }) 0
    (Buffered (file_at 1 true true 0) (record { len = 3; bytes = []; deferred = ((2, 3) ∷ []); reading = None }))) 1
    (File (file_at 1 false true 18446744073709551615))) 2 (Buffered (file_at 1 true true 4)
    (record { len = 5; bytes = []; deferred = []; reading = (Some 3) })))
unfolding request_body string uint32 uint64 attributes
read_link_4 = refl

pub read_link_4_left : site_after_cancel (call.ReadLink (47 ∷ 97 ∷ []))
    (with_slot (with_slot (with_slot (record fresh_site { directory = (120 ∷ []) }) 0
    (Buffered (file_at 1 true true 0) (record { len = 3; bytes = []; deferred = ((2, 3) ∷ []); reading = None }))) 1
    (File (file_at 1 false true 18446744073709551615))) 2 (Buffered (file_at 1 true true 4)
    (record { len = 5; bytes = []; deferred = []; reading = (Some 3) }))) (facts 24 5 4 3 4)
    ((4, (request.Readlink (47 ∷ 97 ∷ []))) ∷ []) (known ((0, (status 0)) ∷ (1, (reply.Handle (1 ∷ 7 ∷ []))) ∷
    (2, (status 0)) ∷ (3, (status 4)) ∷ (4, (status 4)) ∷ []))
    ≡ (with_slot (with_slot (with_slot (record fresh_site { directory = (120 ∷ []) }) 0
    (Buffered (file_at 1 true true 0) (record { len = 3; bytes = []; deferred = ((2, 3) ∷ []); reading = None }))) 1
    (File (file_at 1 false true 18446744073709551615))) 2 (Buffered (file_at 1 true true 4)
    (record { len = 5; bytes = []; deferred = []; reading = (Some 3) })))
read_link_4_left = refl

pub read_link_5 : next (call.ReadLink (97 ∷ 98 ∷ [])) (with_slot
    (with_slot (with_slot (record fresh_site { directory = (47 ∷ 120 ∷ []) }) 0 (File (file_at 0 false true 13))) 1
    (Buffered (file_at 1 true true 15) (record { len = 2; bytes = []; deferred = []; reading = None }))) 2
    (Buffered (file_at 1 true false 10) (record {
      len = 5;
      bytes = (233 ∷ 145 ∷ 212 ∷ 50 ∷ []);
      deferred = [];
      reading =
          None;
    }))) (facts 11 5 1 6 3) [] (known ((0, (reply.Handle (0 ∷ 7 ∷ []))) ∷ (1, (reply.Handle (1 ∷ 7 ∷ []))) ∷ []))
    ≡ Ask (request.Readlink (47 ∷ 120 ∷ 47 ∷ 97 ∷ 98 ∷ []))
unfolding request_body string uint32 uint64 attributes
read_link_5 = refl

pub canonicalize_1 : next (call.Canonicalize (47 ∷ [])) (with_slot
    (with_slot (record fresh_site { directory = (120 ∷ []) }) 0 (File (file_at 1 true false 18446744073709551612))) 1
    (Buffered (file_at 1 true true 0) (record {
      len = 4;
      bytes = [];
      deferred = ((3, 1) ∷ (4, 2) ∷ []);
      reading =
          (Some 5);
    }))) (facts 17 5 2 3 2) ((6, (request.Realpath (47 ∷ []))) ∷ [])
    (known ((0, (status 0)) ∷ (1, (reply.Handle (1 ∷ 7 ∷ []))) ∷ (2, (reply.Handle (2 ∷ 7 ∷ []))) ∷ (3, (status 0)) ∷
    (4, (status 0)) ∷ (5, (reply.Content (119 ∷ 129 ∷ 32 ∷ []))) ∷ (6, (status 2)) ∷ []))
    ≡ Done (outcome.Refused (error.SftpError 2 [] [])) (with_slot
    (with_slot (record fresh_site { directory = (120 ∷ []) }) 0 (File (file_at 1 true false 18446744073709551612))) 1
    (Buffered (file_at 1 true true 0) (record {
      len = 4;
      bytes = [];
      deferred = ((3, 1) ∷ (4, 2) ∷ []);
      reading =
          (Some 5);
    })))
unfolding request_body string uint32 uint64 attributes
canonicalize_1 = refl

pub canonicalize_1_left : site_after_cancel (call.Canonicalize (47 ∷ []))
    (with_slot (with_slot (record fresh_site { directory = (120 ∷ []) }) 0
    (File (file_at 1 true false 18446744073709551612))) 1 (Buffered (file_at 1 true true 0)
    (record { len = 4; bytes = []; deferred = ((3, 1) ∷ (4, 2) ∷ []); reading = (Some 5) }))) (facts 17 5 2 3 2)
    ((6, (request.Realpath (47 ∷ []))) ∷ []) (known ((0, (status 0)) ∷ (1, (reply.Handle (1 ∷ 7 ∷ []))) ∷
    (2, (reply.Handle (2 ∷ 7 ∷ []))) ∷ (3, (status 0)) ∷ (4, (status 0)) ∷ (5, (reply.Content (119 ∷ 129 ∷ 32 ∷ []))) ∷
    (6, (status 2)) ∷ [])) ≡ (with_slot (with_slot (record fresh_site { directory = (120 ∷ []) }) 0
    (File (file_at 1 true false 18446744073709551612))) 1 (Buffered (file_at 1 true true 0)
    (record { len = 4; bytes = []; deferred = ((3, 1) ∷ (4, 2) ∷ []); reading = (Some 5) })))
canonicalize_1_left = refl

pub canonicalize_2 : next (call.Canonicalize (97 ∷ 47 ∷ 98 ∷ []))
    (with_slot (with_slot (record fresh_site { directory = (47 ∷ 120 ∷ []) }) 0
    (Buffered (file_at 1 false true 4) (record { len = 1; bytes = []; deferred = ((2, 6) ∷ []); reading = None }))) 2
    (Buffered (file_at 0 true false 18446744073709551614) (record
    { len = 1; bytes = (145 ∷ []); deferred = []; reading = None }))) (facts 44 4 2 6 2)
    ((3, (request.ExpandPath (47 ∷ 120 ∷ 47 ∷ 97 ∷ 47 ∷ 98 ∷ []))) ∷ [])
    (known ((0, (reply.Handle (0 ∷ 7 ∷ []))) ∷ (1, (reply.Handle (1 ∷ 7 ∷ []))) ∷ (2, (status 1)) ∷
    (3, (reply.Names ((entry (38 ∷ [])) ∷ (entry (65 ∷ [])) ∷ []))) ∷ []))
    ≡ Done (outcome.Path (38 ∷ [])) (with_slot (with_slot (record fresh_site { directory = (47 ∷ 120 ∷ []) }) 0
    (Buffered (file_at 1 false true 4) (record { len = 1; bytes = []; deferred = ((2, 6) ∷ []); reading = None }))) 2
    (Buffered (file_at 0 true false 18446744073709551614) (record
    { len = 1; bytes = (145 ∷ []); deferred = []; reading = None })))
unfolding request_body string uint32 uint64 attributes
canonicalize_2 = refl

pub canonicalize_2_left : site_after_cancel (call.Canonicalize (97 ∷ 47 ∷ 98 ∷ []))
    (with_slot (with_slot (record fresh_site { directory = (47 ∷ 120 ∷ []) }) 0
    (Buffered (file_at 1 false true 4) (record { len = 1; bytes = []; deferred = ((2, 6) ∷ []); reading = None }))) 2
    (Buffered (file_at 0 true false 18446744073709551614) (record
    { len = 1; bytes = (145 ∷ []); deferred = []; reading = None }))) (facts 44 4 2 6 2)
    ((3, (request.ExpandPath (47 ∷ 120 ∷ 47 ∷ 97 ∷ 47 ∷ 98 ∷ []))) ∷ [])
    (known ((0, (reply.Handle (0 ∷ 7 ∷ []))) ∷ (1, (reply.Handle (1 ∷ 7 ∷ []))) ∷ (2, (status 1)) ∷
    (3, (reply.Names ((entry (38 ∷ [])) ∷ (entry (65 ∷ [])) ∷ []))) ∷ []))
    ≡ (with_slot (with_slot (record fresh_site { directory = (47 ∷ 120 ∷ []) }) 0
    (Buffered (file_at 1 false true 4) (record { len = 1; bytes = []; deferred = ((2, 6) ∷ []); reading = None }))) 2
    (Buffered (file_at 0 true false 18446744073709551614) (record
    { len = 1; bytes = (145 ∷ []); deferred = []; reading = None })))
canonicalize_2_left = refl

pub canonicalize_3 : next (call.Canonicalize (97 ∷ 98 ∷ []))
    (with_slot (with_slot (with_slot (record fresh_site { directory = (120 ∷ []) }) 0
    (Buffered (file_at 2 true false 18446744073709551613) (record
    { len = 3; bytes = (46 ∷ 239 ∷ 121 ∷ []); deferred = []; reading = None }))) 1
    (Buffered (file_at 2 true true 11) (record { len = 4; bytes = (193 ∷ []); deferred = []; reading = None }))) 2
    (Buffered (file_at 1 false true 11) (record {
      len = 3;
      bytes = [];
      deferred = ((3, 3) ∷ (4, 4) ∷ []);
      reading =
          None;
    }))) (facts 23 4 4 7 4) ((5, (request.Realpath (120 ∷ 47 ∷ 97 ∷ 98 ∷ []))) ∷ [])
    (known ((0, (status 0)) ∷ (1, (reply.Handle (1 ∷ 7 ∷ []))) ∷ (2, (reply.Handle (2 ∷ 7 ∷ []))) ∷ (3, (status 0)) ∷
    (4, (status 0)) ∷ [])) ≡ Wait 5
unfolding request_body string uint32 uint64 attributes
canonicalize_3 = refl

pub canonicalize_3_left : site_after_cancel (call.Canonicalize (97 ∷ 98 ∷ []))
    (with_slot (with_slot (with_slot (record fresh_site { directory = (120 ∷ []) }) 0
    (Buffered (file_at 2 true false 18446744073709551613) (record
    { len = 3; bytes = (46 ∷ 239 ∷ 121 ∷ []); deferred = []; reading = None }))) 1
    (Buffered (file_at 2 true true 11) (record { len = 4; bytes = (193 ∷ []); deferred = []; reading = None }))) 2
    (Buffered (file_at 1 false true 11) (record {
      len = 3;
      bytes = [];
      deferred = ((3, 3) ∷ (4, 4) ∷ []);
      reading =
          None;
    }))) (facts 23 4 4 7 4) ((5, (request.Realpath (120 ∷ 47 ∷ 97 ∷ 98 ∷ []))) ∷ [])
    (known ((0, (status 0)) ∷ (1, (reply.Handle (1 ∷ 7 ∷ []))) ∷ (2, (reply.Handle (2 ∷ 7 ∷ []))) ∷ (3, (status 0)) ∷
    (4, (status 0)) ∷ [])) ≡ (with_slot (with_slot (with_slot (record fresh_site { directory = (120 ∷ []) }) 0
    (Buffered (file_at 2 true false 18446744073709551613) (record
    { len = 3; bytes = (46 ∷ 239 ∷ 121 ∷ []); deferred = []; reading = None }))) 1
    (Buffered (file_at 2 true true 11) (record { len = 4; bytes = (193 ∷ []); deferred = []; reading = None }))) 2
    (Buffered (file_at 1 false true 11) (record {
      len = 3;
      bytes = [];
      deferred = ((3, 3) ∷ (4, 4) ∷ []);
      reading =
          None;
    })))
canonicalize_3_left = refl

pub canonicalize_4 : next (call.Canonicalize (97 ∷ 98 ∷ []))
    (with_slot (with_slot (with_slot fresh_site 0 (Buffered (file_at 0 true false 18446744073709551611)
    (record { len = 1; bytes = (196 ∷ 197 ∷ 179 ∷ 40 ∷ []); deferred = []; reading = None }))) 1
    (Buffered (file_at 0 true false 11) (record {
      len = 5;
      bytes = (155 ∷ 123 ∷ 46 ∷ 1 ∷ []);
      deferred = [];
      reading =
          None;
    }))) 2 (Buffered (file_at 0 false true 0) (record {
      len = 5;
      bytes = (28 ∷ []);
      deferred = [];
      reading =
          None;
    }))) (facts 16 3 4 7 2) [] (known ((0, (reply.Handle (0 ∷ 7 ∷ []))) ∷ []))
    ≡ Ask (request.Realpath (97 ∷ 98 ∷ []))
unfolding request_body string uint32 uint64 attributes
canonicalize_4 = refl

pub canonicalize_5 : next (call.Canonicalize []) (with_slot (with_slot
    (record fresh_site { directory = (120 ∷ 47 ∷ []) }) 1 (Buffered (file_at 2 true true 18446744073709551615)
    (record { len = 3; bytes = (175 ∷ 238 ∷ []); deferred = []; reading = None }))) 2
    (Buffered (file_at 2 true true 8) (record { len = 3; bytes = []; deferred = []; reading = (Some 3) })))
    (facts 9 5 2 7 3) [] (known ((0, (status 0)) ∷ (1, (reply.Handle (1 ∷ 7 ∷ []))) ∷ (2, (reply.Handle (2 ∷ 7 ∷ []))) ∷
    [])) ≡ Ask (request.ExpandPath (120 ∷ 47 ∷ []))
unfolding request_body string uint32 uint64 attributes
canonicalize_5 = refl

pub cwd_1 : next (call.Cwd (47 ∷ 97 ∷ [])) (with_slot fresh_site 2
    (Buffered (file_at 1 true true 4) (record { len = 2; bytes = []; deferred = ((2, 3) ∷ []); reading = (Some 3) })))
    (facts 9 2 3 3 1) [] (known ((0, (status 0)) ∷ (1, (reply.Handle (1 ∷ 7 ∷ []))) ∷
    (3, (reply.Content (12 ∷ 219 ∷ 241 ∷ 118 ∷ []))) ∷ [])) ≡ Done outcome.Done
    (with_slot (record fresh_site { directory = (47 ∷ 97 ∷ []) }) 2
    (Buffered (file_at 1 true true 4) (record { len = 2; bytes = []; deferred = ((2, 3) ∷ []); reading = (Some 3) })))
cwd_1 = refl

pub cwd_2 : next (call.Cwd (97 ∷ 47 ∷ 98 ∷ [])) (with_slot (with_slot fresh_site 0
    (File (file_at 1 true true 18446744073709551613))) 1 (Buffered (file_at 1 true true 0)
    (record { len = 4; bytes = (254 ∷ 215 ∷ []); deferred = []; reading = None }))) (facts 25 4 2 3 2) []
    (known ((0, (reply.Handle (0 ∷ 7 ∷ []))) ∷ (1, (reply.Handle (1 ∷ 7 ∷ []))) ∷ []))
    ≡ Done outcome.Done (with_slot (with_slot (record fresh_site { directory = (97 ∷ 47 ∷ 98 ∷ []) }) 0
    (File (file_at 1 true true 18446744073709551613))) 1 (Buffered (file_at 1 true true 0)
    (record { len = 4; bytes = (254 ∷ 215 ∷ []); deferred = []; reading = None })))
cwd_2 = refl
