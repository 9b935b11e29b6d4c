-- States of plans drawn at random, each with the move or the site that an independent model gives.
use Rattle.std.specs.Prelude.{◌≡◌, true, false, [], ◌∷◌, Some, None, refl}
use Rattle.ssh_encoding.specs.Writing.{uint32, uint64, string}
use Rattle.sftp_model.specs.declared.request.Request.TheVariants as request
use Rattle.sftp_model.specs.declared.reply.Reply.TheVariants as reply
use Rattle.sftp_model.specs.declared.outcome.Outcome.TheVariants as outcome
use Rattle.sftp_model.specs.declared.error.Error.TheVariants as error
use Rattle.sftp_model.specs.declared.slot.Move.TheVariants.{Ask, Wait, Done}
use Rattle.sftp_model.specs.Frames.{request_body, attributes}
use Rattle.sftp_model.specs.declared.slot.Slot.TheVariants.{File, Buffered}
use Rattle.sftp_model.specs.Slots.{fresh_site, with_slot}
use Rattle.plan_model.specs.declared.call.Call.TheVariants as call
use Rattle.plan_model.specs.CallPlans.{site_after_cancel, next}
use Rattle.sftp_model.specs.Answers.{status}
use Rattle.plan_model.specs.PlanWords.{known, facts, file_at, attributes_of}

pub stat_1 : next (call.Stat (47 ∷ [])) (with_slot (with_slot (with_slot fresh_site 0 (File (file_at 1 true false 5))) 1
    (Buffered (file_at 1 false true 19) (record { len = 5; bytes = []; deferred = ((2, 7) ∷ []); reading = None }))) 2
    (Buffered (file_at 1 true true 0) (record { len = 2; bytes = []; deferred = ((3, 7) ∷ []); reading = None })))
    (facts 59 3 2 7 1) ((4, (request.Stat (47 ∷ []))) ∷ []) (known
    ((0, (status 0)) ∷ (1, (reply.Handle (1 ∷ 7 ∷ []))) ∷ (2, (status 0)) ∷ [])) ≡ Wait 4
unfolding request_body string uint32 uint64 attributes
stat_1 = refl

pub stat_1_left : site_after_cancel (call.Stat (47 ∷ [])) (with_slot
    (with_slot (with_slot fresh_site 0 (File (file_at 1 true false 5))) 1
    (Buffered (file_at 1 false true 19) (record { len = 5; bytes = []; deferred = ((2, 7) ∷ []); reading = None }))) 2
    (Buffered (file_at 1 true true 0) (record { len = 2; bytes = []; deferred = ((3, 7) ∷ []); reading = None })))
    (facts 59 3 2 7 1) ((4, (request.Stat (47 ∷ []))) ∷ []) (known
    ((0, (status 0)) ∷ (1, (reply.Handle (1 ∷ 7 ∷ []))) ∷ (2, (status 0)) ∷ []))
    ≡ (with_slot (with_slot (with_slot fresh_site 0 (File (file_at 1 true false 5))) 1
    (Buffered (file_at 1 false true 19) (record { len = 5; bytes = []; deferred = ((2, 7) ∷ []); reading = None }))) 2
    (Buffered (file_at 1 true true 0) (record { len = 2; bytes = []; deferred = ((3, 7) ∷ []); reading = None })))
stat_1_left = refl

pub stat_2 : next (call.Stat (97 ∷ 47 ∷ 98 ∷ [])) (with_slot
    (with_slot (with_slot (record fresh_site { directory = (120 ∷ 47 ∷ []) }) 0 (File (file_at 0 true true 0))) 1
    (File (file_at 1 true true 0))) 2 (Buffered (file_at 1 true true 18446744073709551612)
    (record { len = 1; bytes = (17 ∷ []); deferred = []; reading = None }))) (facts 15 5 2 6 4) []
    (known ((0, (reply.Handle (0 ∷ 7 ∷ []))) ∷ (1, (reply.Handle (1 ∷ 7 ∷ []))) ∷ []))
    ≡ Ask (request.Stat (120 ∷ 47 ∷ 97 ∷ 47 ∷ 98 ∷ []))
unfolding request_body string uint32 uint64 attributes
stat_2 = refl

pub stat_3 : next (call.Stat []) (with_slot (with_slot (with_slot fresh_site 0 (File (file_at 1 true true 0))) 1
    (File (file_at 2 true false 1))) 2 (Buffered (file_at 1 false true 18446744073709551615)
    (record { len = 5; bytes = []; deferred = ((3, 6) ∷ []); reading = None }))) (facts 27 1 1 6 2)
    ((4, (request.Stat [])) ∷ []) (known ((0, (status 0)) ∷ (1, (reply.Handle (1 ∷ 7 ∷ []))) ∷
    (2, (reply.Handle (2 ∷ 7 ∷ []))) ∷ (3, (status 0)) ∷ (4, (reply.Attrs (attributes_of (Some 61) (Some 420)))) ∷ []))
    ≡ Done (outcome.Meta (attributes_of (Some 61) (Some 420)))
    (with_slot (with_slot (with_slot fresh_site 0 (File (file_at 1 true true 0))) 1 (File (file_at 2 true false 1))) 2
    (Buffered (file_at 1 false true 18446744073709551615) (record
    { len = 5; bytes = []; deferred = ((3, 6) ∷ []); reading = None })))
unfolding request_body string uint32 uint64 attributes
stat_3 = refl

pub stat_3_left : site_after_cancel (call.Stat []) (with_slot
    (with_slot (with_slot fresh_site 0 (File (file_at 1 true true 0)))
    1 (File (file_at 2 true false 1))) 2 (Buffered (file_at 1 false true 18446744073709551615)
    (record { len = 5; bytes = []; deferred = ((3, 6) ∷ []); reading = None }))) (facts 27 1 1 6 2)
    ((4, (request.Stat [])) ∷ []) (known ((0, (status 0)) ∷ (1, (reply.Handle (1 ∷ 7 ∷ []))) ∷
    (2, (reply.Handle (2 ∷ 7 ∷ []))) ∷ (3, (status 0)) ∷ (4, (reply.Attrs (attributes_of (Some 61) (Some 420)))) ∷ []))
    ≡ (with_slot (with_slot (with_slot fresh_site 0 (File (file_at 1 true true 0))) 1 (File (file_at 2 true false 1))) 2
    (Buffered (file_at 1 false true 18446744073709551615) (record
    { len = 5; bytes = []; deferred = ((3, 6) ∷ []); reading = None })))
stat_3_left = refl

pub stat_4 : next (call.Stat (97 ∷ [])) (with_slot (with_slot
    (with_slot (record fresh_site { directory = (120 ∷ []) }) 0
    (Buffered (file_at 0 true false 8) (record { len = 3; bytes = []; deferred = []; reading = None }))) 1
    (File (file_at 0 false true 16))) 2 (Buffered (file_at 0 false true 18446744073709551615)
    (record { len = 1; bytes = []; deferred = ((1, 3) ∷ []); reading = None }))) (facts 39 4 1 3 1)
    ((2, (request.Stat (120 ∷ 47 ∷ 97 ∷ []))) ∷ []) (known ((0, (reply.Handle (0 ∷ 7 ∷ []))) ∷ (1, (status 0)) ∷
    (2, (status 2)) ∷ [])) ≡ Done (outcome.Refused (error.SftpError 2 [] []))
    (with_slot (with_slot (with_slot (record fresh_site { directory = (120 ∷ []) }) 0
    (Buffered (file_at 0 true false 8) (record { len = 3; bytes = []; deferred = []; reading = None }))) 1
    (File (file_at 0 false true 16))) 2 (Buffered (file_at 0 false true 18446744073709551615)
    (record { len = 1; bytes = []; deferred = ((1, 3) ∷ []); reading = None })))
unfolding request_body string uint32 uint64 attributes
stat_4 = refl

pub stat_4_left : site_after_cancel (call.Stat (97 ∷ [])) (with_slot
    (with_slot (with_slot (record fresh_site { directory = (120 ∷ []) }) 0
    (Buffered (file_at 0 true false 8) (record { len = 3; bytes = []; deferred = []; reading = None }))) 1
    (File (file_at 0 false true 16))) 2 (Buffered (file_at 0 false true 18446744073709551615)
    (record { len = 1; bytes = []; deferred = ((1, 3) ∷ []); reading = None }))) (facts 39 4 1 3 1)
    ((2, (request.Stat (120 ∷ 47 ∷ 97 ∷ []))) ∷ []) (known ((0, (reply.Handle (0 ∷ 7 ∷ []))) ∷ (1, (status 0)) ∷
    (2, (status 2)) ∷ [])) ≡ (with_slot (with_slot (with_slot (record fresh_site { directory = (120 ∷ []) }) 0
    (Buffered (file_at 0 true false 8) (record { len = 3; bytes = []; deferred = []; reading = None }))) 1
    (File (file_at 0 false true 16))) 2 (Buffered (file_at 0 false true 18446744073709551615)
    (record { len = 1; bytes = []; deferred = ((1, 3) ∷ []); reading = None })))
stat_4_left = refl

pub lstat_1 : next (call.Lstat (97 ∷ 98 ∷ [])) (with_slot (with_slot fresh_site 1 (File (file_at 0 true false 10))) 2
    (Buffered (file_at 0 true true 0) (record {
      len = 1;
      bytes = (249 ∷ []);
      deferred = ((1, 5) ∷ []);
      reading =
          None;
    }))) (facts 31 4 2 5 1) [] (known ((0, (reply.Handle (0 ∷ 7 ∷ []))) ∷ (1, (status 0)) ∷ []))
    ≡ Ask (request.Lstat (97 ∷ 98 ∷ []))
unfolding request_body string uint32 uint64 attributes
lstat_1 = refl

pub lstat_2 : next (call.Lstat (47 ∷ [])) (with_slot fresh_site 2
    (Buffered (file_at 0 false true 18446744073709551614) (record
    { len = 2; bytes = []; deferred = ((1, 6) ∷ []); reading = None }))) (facts 29 3 3 6 4)
    ((2, (request.Lstat (47 ∷ []))) ∷ []) (known ((0, (reply.Handle (0 ∷ 7 ∷ []))) ∷ (1, (status 0)) ∷
    (2, (reply.Attrs (attributes_of (Some 98) None))) ∷ [])) ≡ Done (outcome.Meta (attributes_of (Some 98) None))
    (with_slot fresh_site 2 (Buffered (file_at 0 false true 18446744073709551614)
    (record { len = 2; bytes = []; deferred = ((1, 6) ∷ []); reading = None })))
unfolding request_body string uint32 uint64 attributes
lstat_2 = refl

pub lstat_2_left : site_after_cancel (call.Lstat (47 ∷ [])) (with_slot fresh_site 2
    (Buffered (file_at 0 false true 18446744073709551614) (record
    { len = 2; bytes = []; deferred = ((1, 6) ∷ []); reading = None }))) (facts 29 3 3 6 4)
    ((2, (request.Lstat (47 ∷ []))) ∷ []) (known ((0, (reply.Handle (0 ∷ 7 ∷ []))) ∷ (1, (status 0)) ∷
    (2, (reply.Attrs (attributes_of (Some 98) None))) ∷ [])) ≡
    (with_slot fresh_site 2 (Buffered (file_at 0 false true 18446744073709551614)
    (record { len = 2; bytes = []; deferred = ((1, 6) ∷ []); reading = None })))
lstat_2_left = refl

pub lstat_3 : next (call.Lstat (97 ∷ 98 ∷ [])) (with_slot (with_slot fresh_site 1 (File (file_at 1 true true 10))) 2
    (Buffered (file_at 1 true false 0) (record { len = 2; bytes = []; deferred = []; reading = (Some 2) })))
    (facts 62 4 2 6 2) ((3, (request.Lstat (97 ∷ 98 ∷ []))) ∷ [])
    (known ((0, (reply.Handle (0 ∷ 7 ∷ []))) ∷ (1, (reply.Handle (1 ∷ 7 ∷ []))) ∷ (2, (status 2)) ∷ (3, (status 2)) ∷
    [])) ≡ Done (outcome.Refused (error.SftpError 2 [] [])) (with_slot
    (with_slot fresh_site 1 (File (file_at 1 true true 10))) 2
    (Buffered (file_at 1 true false 0) (record { len = 2; bytes = []; deferred = []; reading = (Some 2) })))
unfolding request_body string uint32 uint64 attributes
lstat_3 = refl

pub lstat_3_left : site_after_cancel (call.Lstat (97 ∷ 98 ∷ [])) (with_slot
    (with_slot fresh_site 1 (File (file_at 1 true true 10))) 2
    (Buffered (file_at 1 true false 0) (record { len = 2; bytes = []; deferred = []; reading = (Some 2) })))
    (facts 62 4 2 6 2) ((3, (request.Lstat (97 ∷ 98 ∷ []))) ∷ [])
    (known ((0, (reply.Handle (0 ∷ 7 ∷ []))) ∷ (1, (reply.Handle (1 ∷ 7 ∷ []))) ∷ (2, (status 2)) ∷ (3, (status 2)) ∷
    [])) ≡ (with_slot (with_slot fresh_site 1 (File (file_at 1 true true 10))) 2
    (Buffered (file_at 1 true false 0) (record { len = 2; bytes = []; deferred = []; reading = (Some 2) })))
lstat_3_left = refl

pub set_stat_1 : next (call.SetStat [] (Some 5) (Some 65535))
    (with_slot (with_slot fresh_site 1 (File (file_at 2 true true 0))) 2
    (Buffered (file_at 2 true true 0) (record {
      len = 3;
      bytes = (205 ∷ 167 ∷ 30 ∷ 95 ∷ []);
      deferred = ((3, 4) ∷ []);
      reading = None;
    }))) (facts 42 1 1 4 1) ((4, (request.Setstat [] (attributes_of (Some 5) (Some 4095)))) ∷ [])
    (known ((0, (status 0)) ∷ (1, (reply.Handle (1 ∷ 7 ∷ []))) ∷ (2, (reply.Handle (2 ∷ 7 ∷ []))) ∷ (3, (status 0)) ∷
    (4, (status 0)) ∷ [])) ≡ Done outcome.Done (with_slot (with_slot fresh_site 1 (File (file_at 2 true true 0))) 2
    (Buffered (file_at 2 true true 0) (record {
      len = 3;
      bytes = (205 ∷ 167 ∷ 30 ∷ 95 ∷ []);
      deferred = ((3, 4) ∷ []);
      reading = None;
    })))
unfolding request_body string uint32 uint64 attributes
set_stat_1 = refl

pub set_stat_1_left : site_after_cancel (call.SetStat [] (Some 5) (Some 65535))
    (with_slot (with_slot fresh_site 1 (File (file_at 2 true true 0))) 2
    (Buffered (file_at 2 true true 0) (record {
      len = 3;
      bytes = (205 ∷ 167 ∷ 30 ∷ 95 ∷ []);
      deferred = ((3, 4) ∷ []);
      reading = None;
    }))) (facts 42 1 1 4 1) ((4, (request.Setstat [] (attributes_of (Some 5) (Some 4095)))) ∷ [])
    (known ((0, (status 0)) ∷ (1, (reply.Handle (1 ∷ 7 ∷ []))) ∷ (2, (reply.Handle (2 ∷ 7 ∷ []))) ∷ (3, (status 0)) ∷
    (4, (status 0)) ∷ [])) ≡ (with_slot (with_slot fresh_site 1 (File (file_at 2 true true 0))) 2
    (Buffered (file_at 2 true true 0) (record {
      len = 3;
      bytes = (205 ∷ 167 ∷ 30 ∷ 95 ∷ []);
      deferred = ((3, 4) ∷ []);
      reading = None;
    })))
set_stat_1_left = refl

pub set_stat_2 : next (call.SetStat (97 ∷ 98 ∷ []) None (Some 65535))
    (with_slot fresh_site 1 (File (file_at 0 false true 17))) (facts 10 3 2 4 2) []
    (known ((0, (reply.Handle (0 ∷ 7 ∷ []))) ∷ [])) ≡ Ask (request.Setstat (97 ∷ 98 ∷ [])
    (attributes_of None (Some 4095)))
unfolding request_body string uint32 uint64 attributes
set_stat_2 = refl

pub set_stat_3 : next (call.SetStat (97 ∷ 98 ∷ []) None (Some 65535))
    (with_slot (with_slot (with_slot (record fresh_site { directory = (120 ∷ 47 ∷ []) }) 0
    (Buffered (file_at 0 true false 0) (record {
      len = 4;
      bytes = (106 ∷ 51 ∷ 247 ∷ []);
      deferred = [];
      reading =
          None;
    }))) 1 (File (file_at 0 true true 7))) 2 (Buffered (file_at 0 true true 0)
    (record { len = 5; bytes = (95 ∷ 246 ∷ 152 ∷ 127 ∷ []); deferred = ((1, 1) ∷ (2, 6) ∷ []); reading = None })))
    (facts 54 2 2 7 1) ((3, (request.Setstat (120 ∷ 47 ∷ 97 ∷ 98 ∷ []) (attributes_of None (Some 4095)))) ∷ [])
    (known ((0, (reply.Handle (0 ∷ 7 ∷ []))) ∷ (2, (status 0)) ∷ [])) ≡ Wait 3
unfolding request_body string uint32 uint64 attributes
set_stat_3 = refl

pub set_stat_3_left : site_after_cancel (call.SetStat (97 ∷ 98 ∷ []) None (Some 65535))
    (with_slot (with_slot (with_slot (record fresh_site { directory = (120 ∷ 47 ∷ []) }) 0
    (Buffered (file_at 0 true false 0) (record {
      len = 4;
      bytes = (106 ∷ 51 ∷ 247 ∷ []);
      deferred = [];
      reading =
          None;
    }))) 1 (File (file_at 0 true true 7))) 2 (Buffered (file_at 0 true true 0)
    (record { len = 5; bytes = (95 ∷ 246 ∷ 152 ∷ 127 ∷ []); deferred = ((1, 1) ∷ (2, 6) ∷ []); reading = None })))
    (facts 54 2 2 7 1) ((3, (request.Setstat (120 ∷ 47 ∷ 97 ∷ 98 ∷ []) (attributes_of None (Some 4095)))) ∷ [])
    (known ((0, (reply.Handle (0 ∷ 7 ∷ []))) ∷ (2, (status 0)) ∷ []))
    ≡ (with_slot (with_slot (with_slot (record fresh_site { directory = (120 ∷ 47 ∷ []) }) 0
    (Buffered (file_at 0 true false 0) (record {
      len = 4;
      bytes = (106 ∷ 51 ∷ 247 ∷ []);
      deferred = [];
      reading =
          None;
    }))) 1 (File (file_at 0 true true 7))) 2 (Buffered (file_at 0 true true 0)
    (record { len = 5; bytes = (95 ∷ 246 ∷ 152 ∷ 127 ∷ []); deferred = ((1, 1) ∷ (2, 6) ∷ []); reading = None })))
set_stat_3_left = refl

pub set_stat_4 : next (call.SetStat [] None None) (with_slot
    (with_slot (with_slot (record fresh_site { directory = (120 ∷ 47 ∷ []) }) 0 (File (file_at 0 true false 11))) 1
    (Buffered (file_at 0 true false 18446744073709551613) (record
    { len = 4; bytes = (184 ∷ []); deferred = []; reading = None }))) 2
    (Buffered (file_at 0 false true 18446744073709551614) (record
    { len = 3; bytes = []; deferred = ((1, 3) ∷ (2, 2) ∷ []); reading = None }))) (facts 42 1 3 6 2)
    ((3, (request.Setstat (120 ∷ 47 ∷ []) (attributes_of None None))) ∷ [])
    (known ((0, (reply.Handle (0 ∷ 7 ∷ []))) ∷ (3, (status 4)) ∷ []))
    ≡ Done (outcome.Refused (error.SftpError 4 [] [])) (with_slot
    (with_slot (with_slot (record fresh_site { directory = (120 ∷ 47 ∷ []) }) 0 (File (file_at 0 true false 11))) 1
    (Buffered (file_at 0 true false 18446744073709551613) (record
    { len = 4; bytes = (184 ∷ []); deferred = []; reading = None }))) 2
    (Buffered (file_at 0 false true 18446744073709551614) (record
    { len = 3; bytes = []; deferred = ((1, 3) ∷ (2, 2) ∷ []); reading = None })))
unfolding request_body string uint32 uint64 attributes
set_stat_4 = refl

pub set_stat_4_left : site_after_cancel (call.SetStat [] None None) (with_slot
    (with_slot (with_slot (record fresh_site { directory = (120 ∷ 47 ∷ []) }) 0 (File (file_at 0 true false 11))) 1
    (Buffered (file_at 0 true false 18446744073709551613) (record
    { len = 4; bytes = (184 ∷ []); deferred = []; reading = None }))) 2
    (Buffered (file_at 0 false true 18446744073709551614) (record
    { len = 3; bytes = []; deferred = ((1, 3) ∷ (2, 2) ∷ []); reading = None }))) (facts 42 1 3 6 2)
    ((3, (request.Setstat (120 ∷ 47 ∷ []) (attributes_of None None))) ∷ [])
    (known ((0, (reply.Handle (0 ∷ 7 ∷ []))) ∷ (3, (status 4)) ∷ []))
    ≡ (with_slot (with_slot (with_slot (record fresh_site { directory = (120 ∷ 47 ∷ []) }) 0
    (File (file_at 0 true false 11))) 1 (Buffered (file_at 0 true false 18446744073709551613)
    (record { len = 4; bytes = (184 ∷ []); deferred = []; reading = None }))) 2
    (Buffered (file_at 0 false true 18446744073709551614) (record
    { len = 3; bytes = []; deferred = ((1, 3) ∷ (2, 2) ∷ []); reading = None })))
set_stat_4_left = refl

pub set_stat_5 : next (call.SetStat (97 ∷ 47 ∷ 98 ∷ []) (Some 5) None)
    (with_slot (with_slot (record fresh_site { directory = (47 ∷ 120 ∷ []) }) 0 (File (file_at 0 false true 1))) 2
    (Buffered (file_at 0 true false 8) (record {
      len = 4;
      bytes = (214 ∷ 171 ∷ 74 ∷ 80 ∷ []);
      deferred = [];
      reading =
          None;
    }))) (facts 60 5 1 3 1) ((
      1,
      (request.Setstat (47 ∷ 120 ∷ 47 ∷ 97 ∷ 47 ∷ 98 ∷ [])
          (attributes_of (Some 5) None)),
    ) ∷ []) (known ((0, (reply.Handle (0 ∷ 7 ∷ []))) ∷ (1, (status 0)) ∷ []))
    ≡ Done outcome.Done (with_slot (with_slot (record fresh_site { directory = (47 ∷ 120 ∷ []) }) 0
    (File (file_at 0 false true 1))) 2 (Buffered (file_at 0 true false 8)
    (record { len = 4; bytes = (214 ∷ 171 ∷ 74 ∷ 80 ∷ []); deferred = []; reading = None })))
unfolding request_body string uint32 uint64 attributes
set_stat_5 = refl

pub set_stat_5_left : site_after_cancel (call.SetStat (97 ∷ 47 ∷ 98 ∷ []) (Some 5) None)
    (with_slot (with_slot (record fresh_site { directory = (47 ∷ 120 ∷ []) }) 0 (File (file_at 0 false true 1))) 2
    (Buffered (file_at 0 true false 8) (record {
      len = 4;
      bytes = (214 ∷ 171 ∷ 74 ∷ 80 ∷ []);
      deferred = [];
      reading =
          None;
    }))) (facts 60 5 1 3 1) ((
      1,
      (request.Setstat (47 ∷ 120 ∷ 47 ∷ 97 ∷ 47 ∷ 98 ∷ [])
          (attributes_of (Some 5) None)),
    ) ∷ []) (known ((0, (reply.Handle (0 ∷ 7 ∷ []))) ∷ (1, (status 0)) ∷ []))
    ≡ (with_slot (with_slot (record fresh_site { directory = (47 ∷ 120 ∷ []) }) 0 (File (file_at 0 false true 1))) 2
    (Buffered (file_at 0 true false 8) (record {
      len = 4;
      bytes = (214 ∷ 171 ∷ 74 ∷ 80 ∷ []);
      deferred = [];
      reading =
          None;
    })))
set_stat_5_left = refl

pub remove_1 : next (call.Remove []) (with_slot (with_slot (record fresh_site { directory = (120 ∷ []) }) 0
    (Buffered (file_at 1 true true 15) (record { len = 2; bytes = []; deferred = ((2, 1) ∷ []); reading = None }))) 2
    (File (file_at 1 true true 18446744073709551611))) (facts 43 4 3 6 1) ((3, (request.Remove (120 ∷ 47 ∷ []))) ∷ [])
    (known ((0, (reply.Handle (0 ∷ 7 ∷ []))) ∷ (1, (reply.Handle (1 ∷ 7 ∷ []))) ∷ (2, (status 0)) ∷ (3, (status 0)) ∷
    [])) ≡ Done outcome.Done (with_slot (with_slot (record fresh_site { directory = (120 ∷ []) }) 0
    (Buffered (file_at 1 true true 15) (record { len = 2; bytes = []; deferred = ((2, 1) ∷ []); reading = None }))) 2
    (File (file_at 1 true true 18446744073709551611)))
unfolding request_body string uint32 uint64 attributes
remove_1 = refl
