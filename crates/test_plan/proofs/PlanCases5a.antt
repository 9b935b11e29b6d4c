-- States of plans drawn at random, each with the move or the site that an independent model gives.
use Rattle.std.specs.Prelude.{◌≡◌, true, false, [], ◌∷◌, Some, None, refl}
use Rattle.ssh_encoding.specs.Writing.{uint32, uint64, string}
use Rattle.sftp_model.specs.declared.request.Request.TheVariants as request
use Rattle.sftp_model.specs.declared.reply.Reply.TheVariants as reply
use Rattle.sftp_model.specs.declared.outcome.Outcome.TheVariants as outcome
use Rattle.sftp_model.specs.declared.error.Error.TheVariants as error
use Rattle.sftp_model.specs.declared.slot.Move.TheVariants.{Ask, Wait, Done}
use Rattle.sftp_model.specs.Frames.{request_body, attributes}
use Rattle.sftp_model.specs.declared.slot.Slot.TheVariants.{File, Buffered}
use Rattle.sftp_model.specs.Slots.{fresh_site, with_slot}
use Rattle.plan_model.specs.declared.call.Call.TheVariants as call
use Rattle.plan_model.specs.CallPlans.{site_after_cancel, next}
use Rattle.sftp_model.specs.Answers.{status}
use Rattle.plan_model.specs.PlanWords.{known, facts, file_at, attributes_of}

pub fs_read_17 : next (call.FsRead (97 ∷ []) 2) (with_slot (with_slot
    (with_slot (record fresh_site { directory = (120 ∷ 47 ∷ []) }) 0
    (Buffered (file_at 2 true true 2) (record {
      len = 4;
      bytes = (156 ∷ []);
      deferred = ((3, 4) ∷ []);
      reading =
          None;
    }))) 1 (File (file_at 2 true false 0))) 2 (File (file_at 1 true true 0))) (facts 62 4 2 4 1)
    ((4, (request.OpenFile (120 ∷ 47 ∷ 97 ∷ []) (record { 0 = 1 }) (attributes_of None None))) ∷
    (5, (request.Read (76 ∷ 112 ∷ 17 ∷ []) 0 4)) ∷ []) (known ((0, (status 0)) ∷ (1, (reply.Handle (1 ∷ 7 ∷ []))) ∷
    (2, (reply.Handle (2 ∷ 7 ∷ []))) ∷ (3, (status 0)) ∷ (4, (reply.Handle (76 ∷ 112 ∷ 17 ∷ []))) ∷ [])) ≡ Wait 5
unfolding request_body string uint32 uint64 attributes
fs_read_17 = refl

pub fs_read_17_left : site_after_cancel (call.FsRead (97 ∷ []) 2) (with_slot
    (with_slot (with_slot (record fresh_site { directory = (120 ∷ 47 ∷ []) }) 0
    (Buffered (file_at 2 true true 2) (record {
      len = 4;
      bytes = (156 ∷ []);
      deferred = ((3, 4) ∷ []);
      reading =
          None;
    }))) 1 (File (file_at 2 true false 0))) 2 (File (file_at 1 true true 0))) (facts 62 4 2 4 1)
    ((4, (request.OpenFile (120 ∷ 47 ∷ 97 ∷ []) (record { 0 = 1 }) (attributes_of None None))) ∷
    (5, (request.Read (76 ∷ 112 ∷ 17 ∷ []) 0 4)) ∷ []) (known ((0, (status 0)) ∷ (1, (reply.Handle (1 ∷ 7 ∷ []))) ∷
    (2, (reply.Handle (2 ∷ 7 ∷ []))) ∷ (3, (status 0)) ∷ (4, (reply.Handle (76 ∷ 112 ∷ 17 ∷ []))) ∷ []))
    ≡ (with_slot (with_slot (with_slot (record fresh_site { directory = (120 ∷ 47 ∷ []) }) 0
    (Buffered (file_at 2 true true 2) (record {
      len = 4;
      bytes = (156 ∷ []);
      deferred = ((3, 4) ∷ []);
      reading =
          None;
    }))) 1 (File (file_at 2 true false 0))) 2 (File (file_at 1 true true 0)))
fs_read_17_left = refl

pub fs_read_18 : next (call.FsRead (97 ∷ 47 ∷ 98 ∷ []) 4) (with_slot
    (with_slot (record fresh_site { directory = (120 ∷ 47 ∷ []) }) 0
    (Buffered (file_at 0 true true 19) (record { len = 1; bytes = []; deferred = []; reading = None }))) 1
    (Buffered (file_at 0 false true 2) (record {
      len = 4;
      bytes = (106 ∷ 106 ∷ []);
      deferred = ((1, 7) ∷ []);
      reading =
          None;
    }))) (facts 61 5 3 7 3) ((
      2,
      (request.OpenFile (120 ∷ 47 ∷ 97 ∷ 47 ∷ 98 ∷ []) (record { 0 = 1 })
          (attributes_of None None)),
    ) ∷ (4, (request.Read (113 ∷ []) 0 5)) ∷ (5, (request.Read (113 ∷ []) 5 5)) ∷
    (6, (request.Read (113 ∷ []) 10 5)) ∷ (7, (request.Read (113 ∷ []) 15 5)) ∷ (8, (request.Read (113 ∷ []) 20 5)) ∷
    []) (known ((0, (reply.Handle (0 ∷ 7 ∷ []))) ∷ (1, (status 0)) ∷ (2, (reply.Handle (113 ∷ []))) ∷
    (4, (reply.Content (219 ∷ 155 ∷ 36 ∷ 145 ∷ 52 ∷ []))) ∷ (5, (reply.Content (100 ∷ 186 ∷ 2 ∷ 192 ∷ 32 ∷ []))) ∷
    (6, (status 4)) ∷ [])) ≡ Done (outcome.Refused (error.SftpError 4 [] []))
    (with_slot (with_slot (record fresh_site { directory = (120 ∷ 47 ∷ []) }) 0
    (Buffered (file_at 0 true true 19) (record { len = 1; bytes = []; deferred = []; reading = None }))) 1
    (Buffered (file_at 0 false true 2) (record {
      len = 4;
      bytes = (106 ∷ 106 ∷ []);
      deferred = ((1, 7) ∷ []);
      reading =
          None;
    })))
unfolding request_body string uint32 uint64 attributes
fs_read_18 = refl

pub fs_read_18_left : site_after_cancel (call.FsRead (97 ∷ 47 ∷ 98 ∷ []) 4)
    (with_slot (with_slot (record fresh_site { directory = (120 ∷ 47 ∷ []) }) 0
    (Buffered (file_at 0 true true 19) (record { len = 1; bytes = []; deferred = []; reading = None }))) 1
    (Buffered (file_at 0 false true 2) (record {
      len = 4;
      bytes = (106 ∷ 106 ∷ []);
      deferred = ((1, 7) ∷ []);
      reading =
          None;
    }))) (facts 61 5 3 7 3) ((
      2,
      (request.OpenFile (120 ∷ 47 ∷ 97 ∷ 47 ∷ 98 ∷ []) (record { 0 = 1 })
          (attributes_of None None)),
    ) ∷ (4, (request.Read (113 ∷ []) 0 5)) ∷ (5, (request.Read (113 ∷ []) 5 5)) ∷
    (6, (request.Read (113 ∷ []) 10 5)) ∷ (7, (request.Read (113 ∷ []) 15 5)) ∷ (8, (request.Read (113 ∷ []) 20 5)) ∷
    []) (known ((0, (reply.Handle (0 ∷ 7 ∷ []))) ∷ (1, (status 0)) ∷ (2, (reply.Handle (113 ∷ []))) ∷
    (4, (reply.Content (219 ∷ 155 ∷ 36 ∷ 145 ∷ 52 ∷ []))) ∷ (5, (reply.Content (100 ∷ 186 ∷ 2 ∷ 192 ∷ 32 ∷ []))) ∷
    (6, (status 4)) ∷ [])) ≡ (with_slot (with_slot (record fresh_site { directory = (120 ∷ 47 ∷ []) }) 0
    (Buffered (file_at 0 true true 19) (record { len = 1; bytes = []; deferred = []; reading = None }))) 1
    (Buffered (file_at 0 false true 2) (record {
      len = 4;
      bytes = (106 ∷ 106 ∷ []);
      deferred = ((1, 7) ∷ []);
      reading =
          None;
    })))
fs_read_18_left = refl

pub fs_read_19 : next (call.FsRead (97 ∷ 98 ∷ []) 2) (with_slot
    (with_slot (with_slot fresh_site 0 (Buffered (file_at 2 true true 18446744073709551615)
    (record { len = 1; bytes = (94 ∷ []); deferred = ((3, 6) ∷ []); reading = None }))) 1
    (File (file_at 1 true true 0))) 2 (File (file_at 1 false true 1))) (facts 38 4 4 6 3) []
    (known ((0, (status 0)) ∷ (1, (reply.Handle (1 ∷ 7 ∷ []))) ∷ (2, (reply.Handle (2 ∷ 7 ∷ []))) ∷ []))
    ≡ Ask (request.OpenFile (97 ∷ 98 ∷ []) (record { 0 = 1 }) (attributes_of None None))
unfolding request_body string uint32 uint64 attributes
fs_read_19 = refl

pub fs_read_20 : next (call.FsRead (47 ∷ 97 ∷ []) 2) (with_slot
    (with_slot (with_slot fresh_site 0 (File (file_at 0 true true 18446744073709551611))) 1
    (Buffered (file_at 0 true true 18446744073709551613) (record
    { len = 2; bytes = (242 ∷ []); deferred = []; reading = None }))) 2
    (Buffered (file_at 0 false true 18446744073709551612) (record
    { len = 2; bytes = []; deferred = ((1, 6) ∷ []); reading = None }))) (facts 33 3 4 6 4)
    ((2, (request.OpenFile (47 ∷ 97 ∷ []) (record { 0 = 1 }) (attributes_of None None))) ∷ [])
    (known ((0, (reply.Handle (0 ∷ 7 ∷ []))) ∷ (2, (reply.Handle (243 ∷ 2 ∷ 178 ∷ []))) ∷ []))
    ≡ Ask (request.Read (243 ∷ 2 ∷ 178 ∷ []) 0 3)
unfolding request_body string uint32 uint64 attributes
fs_read_20 = refl

pub fs_read_20_left : site_after_cancel (call.FsRead (47 ∷ 97 ∷ []) 2)
    (with_slot (with_slot (with_slot fresh_site 0 (File (file_at 0 true true 18446744073709551611))) 1
    (Buffered (file_at 0 true true 18446744073709551613) (record
    { len = 2; bytes = (242 ∷ []); deferred = []; reading = None }))) 2
    (Buffered (file_at 0 false true 18446744073709551612) (record
    { len = 2; bytes = []; deferred = ((1, 6) ∷ []); reading = None }))) (facts 33 3 4 6 4)
    ((2, (request.OpenFile (47 ∷ 97 ∷ []) (record { 0 = 1 }) (attributes_of None None))) ∷ [])
    (known ((0, (reply.Handle (0 ∷ 7 ∷ []))) ∷ (2, (reply.Handle (243 ∷ 2 ∷ 178 ∷ []))) ∷ []))
    ≡ (with_slot (with_slot (with_slot fresh_site 0 (File (file_at 0 true true 18446744073709551611))) 1
    (Buffered (file_at 0 true true 18446744073709551613) (record
    { len = 2; bytes = (242 ∷ []); deferred = []; reading = None }))) 2
    (Buffered (file_at 0 false true 18446744073709551612) (record
    { len = 2; bytes = []; deferred = ((1, 6) ∷ []); reading = None })))
fs_read_20_left = refl

pub fs_read_21 : next (call.FsRead (97 ∷ 98 ∷ []) 2) (with_slot
    (with_slot (with_slot (record fresh_site { directory = (47 ∷ 120 ∷ []) }) 0 (File (file_at 0 false true 12))) 1
    (File (file_at 0 false true 9))) 2 (File (file_at 0 true true 19))) (facts 58 3 3 6 1)
    ((1, (request.OpenFile (47 ∷ 120 ∷ 47 ∷ 97 ∷ 98 ∷ []) (record { 0 = 1 }) (attributes_of None None))) ∷
    (2, (request.Read (107 ∷ 205 ∷ []) 0 3)) ∷ (4, (request.Read (107 ∷ 205 ∷ []) 2 3)) ∷ [])
    (known ((0, (reply.Handle (0 ∷ 7 ∷ []))) ∷ (1, (reply.Handle (107 ∷ 205 ∷ []))) ∷
    (2, (reply.Content (210 ∷ 87 ∷ []))) ∷ (4, (reply.Content (23 ∷ 173 ∷ 211 ∷ []))) ∷ []))
    ≡ Done outcome.GivenUp (with_slot (with_slot (with_slot (record fresh_site { directory = (47 ∷ 120 ∷ []) }) 0
    (File (file_at 0 false true 12))) 1 (File (file_at 0 false true 9))) 2 (File (file_at 0 true true 19)))
unfolding request_body string uint32 uint64 attributes
fs_read_21 = refl

pub fs_read_21_left : site_after_cancel (call.FsRead (97 ∷ 98 ∷ []) 2)
    (with_slot (with_slot (with_slot (record fresh_site { directory = (47 ∷ 120 ∷ []) }) 0
    (File (file_at 0 false true 12))) 1 (File (file_at 0 false true 9))) 2 (File (file_at 0 true true 19)))
    (facts 58 3 3 6 1) ((
      1,
      (request.OpenFile (47 ∷ 120 ∷ 47 ∷ 97 ∷ 98 ∷ []) (record { 0 = 1 })
          (attributes_of None None)),
    ) ∷ (2, (request.Read (107 ∷ 205 ∷ []) 0 3)) ∷ (4, (request.Read (107 ∷ 205 ∷ []) 2 3)) ∷
    []) (known ((0, (reply.Handle (0 ∷ 7 ∷ []))) ∷ (1, (reply.Handle (107 ∷ 205 ∷ []))) ∷
    (2, (reply.Content (210 ∷ 87 ∷ []))) ∷ (4, (reply.Content (23 ∷ 173 ∷ 211 ∷ []))) ∷ []))
    ≡ (with_slot (with_slot (with_slot (record fresh_site { directory = (47 ∷ 120 ∷ []) }) 0
    (File (file_at 0 false true 12))) 1 (File (file_at 0 false true 9))) 2 (File (file_at 0 true true 19)))
fs_read_21_left = refl

pub fs_read_22 : next (call.FsRead (47 ∷ []) 4) (with_slot (record fresh_site { directory = (47 ∷ 120 ∷ []) }) 1
    (Buffered (file_at 0 true true 7) (record {
      len = 3;
      bytes = (74 ∷ 133 ∷ 101 ∷ 31 ∷ []);
      deferred = ((1, 3) ∷ []);
      reading = None;
    }))) (facts 2 3 3 3 2) ((
      2,
      (request.OpenFile (47 ∷ []) (record { 0 = 1 })
          (attributes_of None None)),
    ) ∷ []) (known ((0, (reply.Handle (0 ∷ 7 ∷ []))) ∷ (1, (status 0)) ∷ [])) ≡ Wait 2
unfolding request_body string uint32 uint64 attributes
fs_read_22 = refl

pub fs_read_22_left : site_after_cancel (call.FsRead (47 ∷ []) 4)
    (with_slot (record fresh_site { directory = (47 ∷ 120 ∷ []) })
    1 (Buffered (file_at 0 true true 7) (record {
      len = 3;
      bytes = (74 ∷ 133 ∷ 101 ∷ 31 ∷ []);
      deferred = ((1, 3) ∷ []);
      reading = None;
    }))) (facts 2 3 3 3 2) ((
      2,
      (request.OpenFile (47 ∷ []) (record { 0 = 1 })
          (attributes_of None None)),
    ) ∷ []) (known ((0, (reply.Handle (0 ∷ 7 ∷ []))) ∷ (1, (status 0)) ∷ []))
    ≡ (with_slot (record fresh_site { directory = (47 ∷ 120 ∷ []) }) 1
    (Buffered (file_at 0 true true 7) (record {
      len = 3;
      bytes = (74 ∷ 133 ∷ 101 ∷ 31 ∷ []);
      deferred = ((1, 3) ∷ []);
      reading = None;
    })))
fs_read_22_left = refl

pub fs_read_23 : next (call.FsRead (97 ∷ 98 ∷ []) 2) (with_slot
    (with_slot (with_slot (record fresh_site { directory = (120 ∷ []) }) 0
    (Buffered (file_at 1 true true 4) (record { len = 3; bytes = []; deferred = ((3, 3) ∷ []); reading = (Some 4) }))) 1
    (Buffered (file_at 2 true true 2) (record { len = 5; bytes = []; deferred = ((5, 3) ∷ []); reading = None }))) 2
    (File (file_at 1 false true 6))) (facts 45 4 3 3 3) ((
      6,
      (request.OpenFile (120 ∷ 47 ∷ 97 ∷ 98 ∷ [])
          (record { 0 = 1 }) (attributes_of None None)),
    ) ∷ []) (known
    ((0, (status 0)) ∷ (1, (reply.Handle (1 ∷ 7 ∷ []))) ∷ (2, (reply.Handle (2 ∷ 7 ∷ []))) ∷
    (4, (reply.Content (54 ∷ []))) ∷ (5, (status 0)) ∷ (6, (reply.Handle (191 ∷ 143 ∷ []))) ∷ []))
    ≡ Ask (request.Read (191 ∷ 143 ∷ []) 0 4)
unfolding request_body string uint32 uint64 attributes
fs_read_23 = refl

pub fs_read_23_left : site_after_cancel (call.FsRead (97 ∷ 98 ∷ []) 2)
    (with_slot (with_slot (with_slot (record fresh_site { directory = (120 ∷ []) }) 0
    (Buffered (file_at 1 true true 4) (record { len = 3; bytes = []; deferred = ((3, 3) ∷ []); reading = (Some 4) }))) 1
    (Buffered (file_at 2 true true 2) (record { len = 5; bytes = []; deferred = ((5, 3) ∷ []); reading = None }))) 2
    (File (file_at 1 false true 6))) (facts 45 4 3 3 3) ((
      6,
      (request.OpenFile (120 ∷ 47 ∷ 97 ∷ 98 ∷ [])
          (record { 0 = 1 }) (attributes_of None None)),
    ) ∷ []) (known
    ((0, (status 0)) ∷ (1, (reply.Handle (1 ∷ 7 ∷ []))) ∷ (2, (reply.Handle (2 ∷ 7 ∷ []))) ∷
    (4, (reply.Content (54 ∷ []))) ∷ (5, (status 0)) ∷ (6, (reply.Handle (191 ∷ 143 ∷ []))) ∷ []))
    ≡ (with_slot (with_slot (with_slot (record fresh_site { directory = (120 ∷ []) }) 0
    (Buffered (file_at 1 true true 4) (record { len = 3; bytes = []; deferred = ((3, 3) ∷ []); reading = (Some 4) }))) 1
    (Buffered (file_at 2 true true 2) (record { len = 5; bytes = []; deferred = ((5, 3) ∷ []); reading = None }))) 2
    (File (file_at 1 false true 6)))
fs_read_23_left = refl

pub fs_read_24 : next (call.FsRead (47 ∷ []) 1) (with_slot (with_slot
    (with_slot (record fresh_site { directory = (47 ∷ 120 ∷ []) }) 0 (File (file_at 0 true true 0))) 1
    (File (file_at 1 true true 0))) 2 (Buffered (file_at 1 true true 0)
    (record { len = 5; bytes = []; deferred = ((2, 1) ∷ (3, 4) ∷ []); reading = None }))) (facts 47 3 1 5 2) []
    (known ((0, (reply.Handle (0 ∷ 7 ∷ []))) ∷ (1, (reply.Handle (1 ∷ 7 ∷ []))) ∷ (2, (status 0)) ∷ (3, (status 0)) ∷
    [])) ≡ Ask (request.OpenFile (47 ∷ []) (record { 0 = 1 }) (attributes_of None None))
unfolding request_body string uint32 uint64 attributes
fs_read_24 = refl

pub fs_write_1 : next (call.FsWrite (47 ∷ []) (132 ∷ 175 ∷ 10 ∷ 130 ∷ 65 ∷ 178 ∷ []))
    (with_slot (with_slot (record fresh_site { directory = (47 ∷ 120 ∷ []) }) 0
    (Buffered (file_at 0 true true 0) (record { len = 1; bytes = []; deferred = ((2, 6) ∷ []); reading = (Some 3) }))) 1
    (File (file_at 0 true true 18446744073709551613))) (facts 30 4 2 6 2)
    ((4, (request.OpenFile (47 ∷ []) (record { 0 = 26 }) (attributes_of None None))) ∷ [])
    (known ((0, (reply.Handle (0 ∷ 7 ∷ []))) ∷ (1, (reply.Handle (1 ∷ 7 ∷ []))) ∷ (2, (status 0)) ∷ [])) ≡ Wait 4
unfolding request_body string uint32 uint64 attributes
fs_write_1 = refl

pub fs_write_1_left : site_after_cancel (call.FsWrite (47 ∷ []) (132 ∷ 175 ∷ 10 ∷ 130 ∷ 65 ∷ 178 ∷ []))
    (with_slot (with_slot (record fresh_site { directory = (47 ∷ 120 ∷ []) }) 0
    (Buffered (file_at 0 true true 0) (record { len = 1; bytes = []; deferred = ((2, 6) ∷ []); reading = (Some 3) }))) 1
    (File (file_at 0 true true 18446744073709551613))) (facts 30 4 2 6 2)
    ((4, (request.OpenFile (47 ∷ []) (record { 0 = 26 }) (attributes_of None None))) ∷ [])
    (known ((0, (reply.Handle (0 ∷ 7 ∷ []))) ∷ (1, (reply.Handle (1 ∷ 7 ∷ []))) ∷ (2, (status 0)) ∷ []))
    ≡ (with_slot (with_slot (record fresh_site { directory = (47 ∷ 120 ∷ []) }) 0
    (Buffered (file_at 0 true true 0) (record { len = 1; bytes = []; deferred = ((2, 6) ∷ []); reading = (Some 3) }))) 1
    (File (file_at 0 true true 18446744073709551613)))
fs_write_1_left = refl

pub fs_write_2 : next (call.FsWrite (97 ∷ 98 ∷ []) (75 ∷ 12 ∷ 245 ∷ 210 ∷ 18 ∷ 237 ∷ 88 ∷ []))
    (with_slot (with_slot (record fresh_site { directory = (120 ∷ []) }) 0 (File (file_at 1 false true 17))) 2
    (File (file_at 1 true true 18446744073709551611))) (facts 51 3 2 4 1)
    ((2, (request.OpenFile (120 ∷ 47 ∷ 97 ∷ 98 ∷ []) (record { 0 = 26 }) (attributes_of None None))) ∷
    (3, (request.Write (197 ∷ 215 ∷ []) 0 (75 ∷ 12 ∷ []))) ∷ (5, (request.Write (197 ∷ 215 ∷ []) 2 (245 ∷ 210 ∷ []))) ∷
    []) (known ((0, (status 0)) ∷ (1, (reply.Handle (1 ∷ 7 ∷ []))) ∷ (2, (reply.Handle (197 ∷ 215 ∷ []))) ∷
    (3, (status 0)) ∷ (5, (status 2)) ∷ [])) ≡ Done (outcome.Refused (error.SftpError 2 [] []))
    (with_slot (with_slot (record fresh_site { directory = (120 ∷ []) }) 0 (File (file_at 1 false true 17))) 2
    (File (file_at 1 true true 18446744073709551611)))
unfolding request_body string uint32 uint64 attributes
fs_write_2 = refl

pub fs_write_2_left : site_after_cancel (call.FsWrite (97 ∷ 98 ∷ []) (75 ∷ 12 ∷ 245 ∷ 210 ∷ 18 ∷ 237 ∷ 88 ∷ []))
    (with_slot (with_slot (record fresh_site { directory = (120 ∷ []) }) 0 (File (file_at 1 false true 17))) 2
    (File (file_at 1 true true 18446744073709551611))) (facts 51 3 2 4 1)
    ((2, (request.OpenFile (120 ∷ 47 ∷ 97 ∷ 98 ∷ []) (record { 0 = 26 }) (attributes_of None None))) ∷
    (3, (request.Write (197 ∷ 215 ∷ []) 0 (75 ∷ 12 ∷ []))) ∷ (5, (request.Write (197 ∷ 215 ∷ []) 2 (245 ∷ 210 ∷ []))) ∷
    []) (known ((0, (status 0)) ∷ (1, (reply.Handle (1 ∷ 7 ∷ []))) ∷ (2, (reply.Handle (197 ∷ 215 ∷ []))) ∷
    (3, (status 0)) ∷ (5, (status 2)) ∷ [])) ≡ (with_slot (with_slot (record fresh_site { directory = (120 ∷ []) }) 0
    (File (file_at 1 false true 17))) 2 (File (file_at 1 true true 18446744073709551611)))
fs_write_2_left = refl

pub fs_write_3 : next (call.FsWrite (97 ∷ []) (129 ∷ 41 ∷ 119 ∷ []))
    (with_slot (with_slot (record fresh_site { directory = (120 ∷ 47 ∷ []) }) 0
    (File (file_at 1 false true 18446744073709551613))) 2 (File (file_at 0 true true 12))) (facts 58 4 3 7 4)
    ((2, (request.OpenFile (120 ∷ 47 ∷ 97 ∷ []) (record { 0 = 26 }) (attributes_of None None))) ∷
    (3, (request.Write (204 ∷ []) 0 (129 ∷ 41 ∷ 119 ∷ []))) ∷ [])
    (known ((0, (reply.Handle (0 ∷ 7 ∷ []))) ∷ (1, (reply.Handle (1 ∷ 7 ∷ []))) ∷ (2, (reply.Handle (204 ∷ []))) ∷
    (3, (status 0)) ∷ [])) ≡ Done outcome.Done (with_slot (with_slot (record fresh_site { directory = (120 ∷ 47 ∷ []) })
    0 (File (file_at 1 false true 18446744073709551613))) 2 (File (file_at 0 true true 12)))
unfolding request_body string uint32 uint64 attributes
fs_write_3 = refl

pub fs_write_3_left : site_after_cancel (call.FsWrite (97 ∷ []) (129 ∷ 41 ∷ 119 ∷ []))
    (with_slot (with_slot (record fresh_site { directory = (120 ∷ 47 ∷ []) }) 0
    (File (file_at 1 false true 18446744073709551613))) 2 (File (file_at 0 true true 12))) (facts 58 4 3 7 4)
    ((2, (request.OpenFile (120 ∷ 47 ∷ 97 ∷ []) (record { 0 = 26 }) (attributes_of None None))) ∷
    (3, (request.Write (204 ∷ []) 0 (129 ∷ 41 ∷ 119 ∷ []))) ∷ [])
    (known ((0, (reply.Handle (0 ∷ 7 ∷ []))) ∷ (1, (reply.Handle (1 ∷ 7 ∷ []))) ∷ (2, (reply.Handle (204 ∷ []))) ∷
    (3, (status 0)) ∷ [])) ≡ (with_slot (with_slot (record fresh_site { directory = (120 ∷ 47 ∷ []) }) 0
    (File (file_at 1 false true 18446744073709551613))) 2 (File (file_at 0 true true 12)))
fs_write_3_left = refl

pub fs_write_4 : next (call.FsWrite [] (161 ∷ 120 ∷ 110 ∷ 51 ∷ 14 ∷ 84 ∷ []))
    (with_slot (with_slot (record fresh_site { directory = (47 ∷ 120 ∷ []) }) 0 (File (file_at 0 false true 15))) 1
    (File (file_at 0 true true 18446744073709551614))) (facts 23 5 2 5 4)
    ((1, (request.OpenFile (47 ∷ 120 ∷ 47 ∷ []) (record { 0 = 26 }) (attributes_of None None))) ∷
    (2, (request.Write (50 ∷ 216 ∷ 44 ∷ []) 0 (161 ∷ 120 ∷ []))) ∷ [])
    (known ((0, (reply.Handle (0 ∷ 7 ∷ []))) ∷ (1, (reply.Handle (50 ∷ 216 ∷ 44 ∷ []))) ∷ (2, (status 0)) ∷ []))
    ≡ Ask (request.Write (50 ∷ 216 ∷ 44 ∷ []) 2 (110 ∷ 51 ∷ []))
unfolding request_body string uint32 uint64 attributes
fs_write_4 = refl
