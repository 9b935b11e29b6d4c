-- States of plans drawn at random, each with the move or the site that an independent model gives.
use Rattle.std.specs.Prelude.{◌≡◌, true, false, [], ◌∷◌, Some, None, refl}
use Rattle.ssh_encoding.specs.Writing.{uint32, uint64, string}
use Rattle.sftp_model.specs.declared.request.Request.TheVariants as request
use Rattle.sftp_model.specs.declared.reply.Reply.TheVariants as reply
use Rattle.sftp_model.specs.declared.outcome.Outcome.TheVariants as outcome
use Rattle.sftp_model.specs.declared.error.Error.TheVariants as error
use Rattle.sftp_model.specs.declared.slot.Move.TheVariants.{Ask, Wait, Done}
use Rattle.sftp_model.specs.Frames.{request_body, attributes}
use Rattle.sftp_model.specs.declared.slot.Slot.TheVariants.{File, Buffered}
use Rattle.sftp_model.specs.Slots.{fresh_site, with_slot}
use Rattle.plan_model.specs.declared.call.Call.TheVariants as call
use Rattle.plan_model.specs.CallPlans.{site_after_cancel, next}
use Rattle.sftp_model.specs.Answers.{status}
use Rattle.plan_model.specs.PlanWords.{known, facts, file_at, attributes_of}

pub fs_read_2 : next (call.FsRead (47 ∷ 97 ∷ []) 4) (with_slot
    (with_slot (with_slot (record fresh_site { directory = (47 ∷ 120 ∷ []) }) 0
    (Buffered (file_at 1 true false 18446744073709551611) (record
    { len = 2; bytes = []; deferred = []; reading = (Some 2) }))) 1 (File (file_at 1 true true 8))) 2
    (File (file_at 1 true false 11))) (facts 57 3 4 5 2) [] (known
    ((0, (status 0)) ∷ (1, (reply.Handle (1 ∷ 7 ∷ []))) ∷ []))
    ≡ Ask (request.OpenFile (47 ∷ 97 ∷ []) (record { 0 = 1 }) (attributes_of None None))
unfolding request_body string uint32 uint64 attributes
fs_read_2 = refl

pub fs_read_3 : next (call.FsRead (97 ∷ 98 ∷ []) 1) (with_slot
    (with_slot (with_slot fresh_site 0 (File (file_at 0 true true 0))) 1
    (Buffered (file_at 0 true true 0) (record {
      len = 5;
      bytes = [];
      deferred = ((1, 1) ∷ (2, 6) ∷ []);
      reading =
          None;
    }))) 2 (Buffered (file_at 0 true true 18446744073709551611)
    (record { len = 1; bytes = []; deferred = ((3, 7) ∷ []); reading = None }))) (facts 19 2 1 7 3)
    ((4, (request.OpenFile (97 ∷ 98 ∷ []) (record { 0 = 1 }) (attributes_of None None))) ∷
    (5, (request.Read (122 ∷ []) 0 2)) ∷ (7, (request.Read (122 ∷ []) 2 2)) ∷ (8, (request.Read (122 ∷ []) 4 2)) ∷ [])
    (known ((0, (reply.Handle (0 ∷ 7 ∷ []))) ∷ (2, (status 0)) ∷ (3, (status 4)) ∷ (4, (reply.Handle (122 ∷ []))) ∷
    (5, (status 2)) ∷ (7, (status 1)) ∷ [])) ≡ Done (outcome.Refused (error.SftpError 2 [] []))
    (with_slot (with_slot (with_slot fresh_site 0 (File (file_at 0 true true 0))) 1
    (Buffered (file_at 0 true true 0) (record {
      len = 5;
      bytes = [];
      deferred = ((1, 1) ∷ (2, 6) ∷ []);
      reading =
          None;
    }))) 2 (Buffered (file_at 0 true true 18446744073709551611)
    (record { len = 1; bytes = []; deferred = ((3, 7) ∷ []); reading = None })))
unfolding request_body string uint32 uint64 attributes
fs_read_3 = refl

pub fs_read_3_left : site_after_cancel (call.FsRead (97 ∷ 98 ∷ []) 1)
    (with_slot (with_slot (with_slot fresh_site 0 (File (file_at 0 true true 0))) 1
    (Buffered (file_at 0 true true 0) (record {
      len = 5;
      bytes = [];
      deferred = ((1, 1) ∷ (2, 6) ∷ []);
      reading =
          None;
    }))) 2 (Buffered (file_at 0 true true 18446744073709551611)
    (record { len = 1; bytes = []; deferred = ((3, 7) ∷ []); reading = None }))) (facts 19 2 1 7 3)
    ((4, (request.OpenFile (97 ∷ 98 ∷ []) (record { 0 = 1 }) (attributes_of None None))) ∷
    (5, (request.Read (122 ∷ []) 0 2)) ∷ (7, (request.Read (122 ∷ []) 2 2)) ∷ (8, (request.Read (122 ∷ []) 4 2)) ∷ [])
    (known ((0, (reply.Handle (0 ∷ 7 ∷ []))) ∷ (2, (status 0)) ∷ (3, (status 4)) ∷ (4, (reply.Handle (122 ∷ []))) ∷
    (5, (status 2)) ∷ (7, (status 1)) ∷ [])) ≡ (with_slot (with_slot
    (with_slot fresh_site 0 (File (file_at 0 true true 0))) 1 (Buffered (file_at 0 true true 0)
    (record { len = 5; bytes = []; deferred = ((1, 1) ∷ (2, 6) ∷ []); reading = None }))) 2
    (Buffered (file_at 0 true true 18446744073709551611) (record
    { len = 1; bytes = []; deferred = ((3, 7) ∷ []); reading = None })))
fs_read_3_left = refl

pub fs_read_4 : next (call.FsRead (47 ∷ 97 ∷ []) 3) (with_slot
    (with_slot (with_slot fresh_site 0 (Buffered (file_at 2 true true 18446744073709551614)
    (record { len = 1; bytes = (27 ∷ 119 ∷ 91 ∷ []); deferred = []; reading = None }))) 1
    (File (file_at 1 false true 18446744073709551614))) 2 (File (file_at 2 true false 9))) (facts 31 4 4 4 4)
    ((3, (request.OpenFile (47 ∷ 97 ∷ []) (record { 0 = 1 }) (attributes_of None None))) ∷
    (4, (request.Read (38 ∷ []) 0 4)) ∷ []) (known ((0, (status 0)) ∷ (1, (reply.Handle (1 ∷ 7 ∷ []))) ∷
    (2, (reply.Handle (2 ∷ 7 ∷ []))) ∷ (3, (reply.Handle (38 ∷ []))) ∷ [])) ≡ Ask (request.Read (38 ∷ []) 4 4)
unfolding request_body string uint32 uint64 attributes
fs_read_4 = refl

pub fs_read_4_left : site_after_cancel (call.FsRead (47 ∷ 97 ∷ []) 3)
    (with_slot (with_slot (with_slot fresh_site 0 (Buffered (file_at 2 true true 18446744073709551614)
    (record { len = 1; bytes = (27 ∷ 119 ∷ 91 ∷ []); deferred = []; reading = None }))) 1
    (File (file_at 1 false true 18446744073709551614))) 2 (File (file_at 2 true false 9))) (facts 31 4 4 4 4)
    ((3, (request.OpenFile (47 ∷ 97 ∷ []) (record { 0 = 1 }) (attributes_of None None))) ∷
    (4, (request.Read (38 ∷ []) 0 4)) ∷ []) (known ((0, (status 0)) ∷ (1, (reply.Handle (1 ∷ 7 ∷ []))) ∷
    (2, (reply.Handle (2 ∷ 7 ∷ []))) ∷ (3, (reply.Handle (38 ∷ []))) ∷ []))
    ≡ (with_slot (with_slot (with_slot fresh_site 0 (Buffered (file_at 2 true true 18446744073709551614)
    (record { len = 1; bytes = (27 ∷ 119 ∷ 91 ∷ []); deferred = []; reading = None }))) 1
    (File (file_at 1 false true 18446744073709551614))) 2 (File (file_at 2 true false 9)))
fs_read_4_left = refl

pub fs_read_5 : next (call.FsRead (47 ∷ []) 1) (with_slot (with_slot (record fresh_site { directory = (120 ∷ []) }) 0
    (Buffered (file_at 2 true true 1) (record { len = 5; bytes = (32 ∷ 71 ∷ 86 ∷ []); deferred = []; reading = None })))
    1 (File (file_at 2 true false 4))) (facts 23 4 1 6 4) ((
      3,
      (request.OpenFile (47 ∷ []) (record { 0 = 1 }) (attributes_of None None)),
    ) ∷ (4, (request.Read (186 ∷ []) 0 4)) ∷
    (5, (request.Read (186 ∷ []) 4 4)) ∷ (6, (request.Read (186 ∷ []) 8 4)) ∷ (8, (request.Read (186 ∷ []) 12 4)) ∷ [])
    (known ((0, (status 0)) ∷ (1, (reply.Handle (1 ∷ 7 ∷ []))) ∷ (2, (reply.Handle (2 ∷ 7 ∷ []))) ∷
    (3, (reply.Handle (186 ∷ []))) ∷ (4, (reply.Content (184 ∷ 61 ∷ 43 ∷ 8 ∷ []))) ∷ []))
    ≡ Done outcome.GivenUp (with_slot (with_slot (record fresh_site { directory = (120 ∷ []) }) 0
    (Buffered (file_at 2 true true 1) (record { len = 5; bytes = (32 ∷ 71 ∷ 86 ∷ []); deferred = []; reading = None })))
    1 (File (file_at 2 true false 4)))
unfolding request_body string uint32 uint64 attributes
fs_read_5 = refl

pub fs_read_5_left : site_after_cancel (call.FsRead (47 ∷ []) 1) (with_slot
    (with_slot (record fresh_site { directory = (120 ∷ []) }) 0
    (Buffered (file_at 2 true true 1) (record { len = 5; bytes = (32 ∷ 71 ∷ 86 ∷ []); deferred = []; reading = None })))
    1 (File (file_at 2 true false 4))) (facts 23 4 1 6 4) ((
      3,
      (request.OpenFile (47 ∷ []) (record { 0 = 1 }) (attributes_of None None)),
    ) ∷ (4, (request.Read (186 ∷ []) 0 4)) ∷
    (5, (request.Read (186 ∷ []) 4 4)) ∷ (6, (request.Read (186 ∷ []) 8 4)) ∷ (8, (request.Read (186 ∷ []) 12 4)) ∷ [])
    (known ((0, (status 0)) ∷ (1, (reply.Handle (1 ∷ 7 ∷ []))) ∷ (2, (reply.Handle (2 ∷ 7 ∷ []))) ∷
    (3, (reply.Handle (186 ∷ []))) ∷ (4, (reply.Content (184 ∷ 61 ∷ 43 ∷ 8 ∷ []))) ∷ []))
    ≡ (with_slot (with_slot (record fresh_site { directory = (120 ∷ []) }) 0
    (Buffered (file_at 2 true true 1) (record { len = 5; bytes = (32 ∷ 71 ∷ 86 ∷ []); deferred = []; reading = None })))
    1 (File (file_at 2 true false 4)))
fs_read_5_left = refl

pub fs_read_6 : next (call.FsRead [] 4) (with_slot (with_slot
    (with_slot (record fresh_site { directory = (120 ∷ 47 ∷ []) }) 0
    (Buffered (file_at 1 true false 8) (record { len = 3; bytes = []; deferred = []; reading = (Some 2) }))) 1
    (Buffered (file_at 1 true true 18) (record {
      len = 4;
      bytes = (100 ∷ 126 ∷ 84 ∷ []);
      deferred = [];
      reading =
          None;
    }))) 2 (File (file_at 0 true false 16))) (facts 29 2 3 5 3)
    ((3, (request.OpenFile (120 ∷ 47 ∷ []) (record { 0 = 1 }) (attributes_of None None))) ∷
    (4, (request.Read (196 ∷ []) 0 2)) ∷ (6, (request.Read (196 ∷ []) 2 2)) ∷ [])
    (known ((0, (reply.Handle (0 ∷ 7 ∷ []))) ∷ (1, (reply.Handle (1 ∷ 7 ∷ []))) ∷
    (2, (reply.Content (25 ∷ 155 ∷ 30 ∷ []))) ∷ (3, (reply.Handle (196 ∷ []))) ∷ (6, (reply.Content (73 ∷ 12 ∷ []))) ∷
    [])) ≡ Ask (request.Read (196 ∷ []) 4 2)
unfolding request_body string uint32 uint64 attributes
fs_read_6 = refl

pub fs_read_6_left : site_after_cancel (call.FsRead [] 4) (with_slot
    (with_slot (with_slot (record fresh_site { directory = (120 ∷ 47 ∷ []) }) 0
    (Buffered (file_at 1 true false 8) (record { len = 3; bytes = []; deferred = []; reading = (Some 2) }))) 1
    (Buffered (file_at 1 true true 18) (record {
      len = 4;
      bytes = (100 ∷ 126 ∷ 84 ∷ []);
      deferred = [];
      reading =
          None;
    }))) 2 (File (file_at 0 true false 16))) (facts 29 2 3 5 3)
    ((3, (request.OpenFile (120 ∷ 47 ∷ []) (record { 0 = 1 }) (attributes_of None None))) ∷
    (4, (request.Read (196 ∷ []) 0 2)) ∷ (6, (request.Read (196 ∷ []) 2 2)) ∷ [])
    (known ((0, (reply.Handle (0 ∷ 7 ∷ []))) ∷ (1, (reply.Handle (1 ∷ 7 ∷ []))) ∷
    (2, (reply.Content (25 ∷ 155 ∷ 30 ∷ []))) ∷ (3, (reply.Handle (196 ∷ []))) ∷ (6, (reply.Content (73 ∷ 12 ∷ []))) ∷
    [])) ≡ (with_slot (with_slot (with_slot (record fresh_site { directory = (120 ∷ 47 ∷ []) }) 0
    (Buffered (file_at 1 true false 8) (record { len = 3; bytes = []; deferred = []; reading = (Some 2) }))) 1
    (Buffered (file_at 1 true true 18) (record {
      len = 4;
      bytes = (100 ∷ 126 ∷ 84 ∷ []);
      deferred = [];
      reading =
          None;
    }))) 2 (File (file_at 0 true false 16)))
fs_read_6_left = refl

pub fs_read_7 : next (call.FsRead (97 ∷ []) 3) (with_slot (with_slot fresh_site 1
    (Buffered (file_at 0 true true 15) (record { len = 2; bytes = []; deferred = ((1, 4) ∷ []); reading = (Some 2) })))
    2 (File (file_at 0 true true 19))) (facts 60 2 4 7 2) ((
      3,
      (request.OpenFile (97 ∷ []) (record { 0 = 1 }) (attributes_of None None)),
    ) ∷ [])
    (known ((0, (reply.Handle (0 ∷ 7 ∷ []))) ∷ (1, (status 1)) ∷ (3, (status 1)) ∷ []))
    ≡ Done (outcome.Refused (error.SftpError 1 [] [])) (with_slot
    (with_slot fresh_site 1 (Buffered (file_at 0 true true 15)
    (record { len = 2; bytes = []; deferred = ((1, 4) ∷ []); reading = (Some 2) }))) 2 (File (file_at 0 true true 19)))
unfolding request_body string uint32 uint64 attributes
fs_read_7 = refl

pub fs_read_7_left : site_after_cancel (call.FsRead (97 ∷ []) 3) (with_slot
    (with_slot fresh_site 1 (Buffered (file_at 0 true true 15)
    (record { len = 2; bytes = []; deferred = ((1, 4) ∷ []); reading = (Some 2) }))) 2 (File (file_at 0 true true 19)))
    (facts 60 2 4 7 2) ((3, (request.OpenFile (97 ∷ []) (record { 0 = 1 }) (attributes_of None None))) ∷ [])
    (known ((0, (reply.Handle (0 ∷ 7 ∷ []))) ∷ (1, (status 1)) ∷ (3, (status 1)) ∷ []))
    ≡ (with_slot (with_slot fresh_site 1 (Buffered (file_at 0 true true 15)
    (record { len = 2; bytes = []; deferred = ((1, 4) ∷ []); reading = (Some 2) }))) 2 (File (file_at 0 true true 19)))
fs_read_7_left = refl

pub fs_read_8 : next (call.FsRead (47 ∷ 97 ∷ []) 3) (with_slot
    (with_slot (with_slot (record fresh_site { directory = (120 ∷ []) }) 0 (File (file_at 0 true true 0))) 1
    (File (file_at 0 false true 0))) 2 (File (file_at 0 false true 16))) (facts 62 1 3 4 3)
    ((2, (request.OpenFile (47 ∷ 97 ∷ []) (record { 0 = 1 }) (attributes_of None None))) ∷ [])
    (known ((0, (reply.Handle (0 ∷ 7 ∷ []))) ∷ (1, (reply.Handle (1 ∷ 7 ∷ []))) ∷ [])) ≡ Wait 2
unfolding request_body string uint32 uint64 attributes
fs_read_8 = refl

pub fs_read_8_left : site_after_cancel (call.FsRead (47 ∷ 97 ∷ []) 3)
    (with_slot (with_slot (with_slot (record fresh_site { directory = (120 ∷ []) }) 0 (File (file_at 0 true true 0))) 1
    (File (file_at 0 false true 0))) 2 (File (file_at 0 false true 16))) (facts 62 1 3 4 3)
    ((2, (request.OpenFile (47 ∷ 97 ∷ []) (record { 0 = 1 }) (attributes_of None None))) ∷ [])
    (known ((0, (reply.Handle (0 ∷ 7 ∷ []))) ∷ (1, (reply.Handle (1 ∷ 7 ∷ []))) ∷ []))
    ≡ (with_slot (with_slot (with_slot (record fresh_site { directory = (120 ∷ []) }) 0 (File (file_at 0 true true 0)))
    1 (File (file_at 0 false true 0))) 2 (File (file_at 0 false true 16)))
fs_read_8_left = refl

pub fs_read_9 : next (call.FsRead (47 ∷ 97 ∷ []) 2) (with_slot (record fresh_site { directory = (120 ∷ 47 ∷ []) }) 2
    (Buffered (file_at 0 true false 18446744073709551613) (record
    { len = 3; bytes = (171 ∷ []); deferred = []; reading = None }))) (facts 34 4 3 5 4)
    ((1, (request.OpenFile (47 ∷ 97 ∷ []) (record { 0 = 1 }) (attributes_of None None))) ∷
    (2, (request.Read (16 ∷ []) 0 4)) ∷ (3, (request.Read (16 ∷ []) 3 4)) ∷ [])
    (known ((0, (reply.Handle (0 ∷ 7 ∷ []))) ∷ (1, (reply.Handle (16 ∷ []))) ∷
    (2, (reply.Content (122 ∷ 116 ∷ 99 ∷ []))) ∷ (3, (reply.Content (172 ∷ 52 ∷ 92 ∷ 54 ∷ []))) ∷ []))
    ≡ Done outcome.GivenUp (with_slot (record fresh_site { directory = (120 ∷ 47 ∷ []) }) 2
    (Buffered (file_at 0 true false 18446744073709551613) (record
    { len = 3; bytes = (171 ∷ []); deferred = []; reading = None })))
unfolding request_body string uint32 uint64 attributes
fs_read_9 = refl

pub fs_read_9_left : site_after_cancel (call.FsRead (47 ∷ 97 ∷ []) 2)
    (with_slot (record fresh_site { directory = (120 ∷ 47 ∷ []) }) 2
    (Buffered (file_at 0 true false 18446744073709551613) (record
    { len = 3; bytes = (171 ∷ []); deferred = []; reading = None }))) (facts 34 4 3 5 4)
    ((1, (request.OpenFile (47 ∷ 97 ∷ []) (record { 0 = 1 }) (attributes_of None None))) ∷
    (2, (request.Read (16 ∷ []) 0 4)) ∷ (3, (request.Read (16 ∷ []) 3 4)) ∷ [])
    (known ((0, (reply.Handle (0 ∷ 7 ∷ []))) ∷ (1, (reply.Handle (16 ∷ []))) ∷
    (2, (reply.Content (122 ∷ 116 ∷ 99 ∷ []))) ∷ (3, (reply.Content (172 ∷ 52 ∷ 92 ∷ 54 ∷ []))) ∷ []))
    ≡ (with_slot (record fresh_site { directory = (120 ∷ 47 ∷ []) }) 2
    (Buffered (file_at 0 true false 18446744073709551613) (record
    { len = 3; bytes = (171 ∷ []); deferred = []; reading = None })))
fs_read_9_left = refl

pub fs_read_10 : next (call.FsRead (97 ∷ []) 2) (with_slot (with_slot
    (with_slot fresh_site 0 (Buffered (file_at 1 true false 16)
    (record { len = 3; bytes = []; deferred = []; reading = None }))) 1 (File (file_at 0 false true 4))) 2
    (Buffered (file_at 1 true true 0) (record {
      len = 2;
      bytes = [];
      deferred = ((2, 1) ∷ (3, 2) ∷ []);
      reading =
          (Some 4);
    }))) (facts 31 5 1 3 2) ((5, (request.OpenFile (97 ∷ []) (record { 0 = 1 }) (attributes_of None None))) ∷
    (7, (request.Read (6 ∷ 98 ∷ 102 ∷ []) 0 5)) ∷ (9, (request.Read (6 ∷ 98 ∷ 102 ∷ []) 5 5)) ∷
    (11, (request.Read (6 ∷ 98 ∷ 102 ∷ []) 10 5)) ∷ []) (known
    ((0, (reply.Handle (0 ∷ 7 ∷ []))) ∷ (1, (reply.Handle (1 ∷ 7 ∷ []))) ∷ (2, (status 0)) ∷ (3, (status 0)) ∷
    (5, (reply.Handle (6 ∷ 98 ∷ 102 ∷ []))) ∷ (7, (reply.Content (237 ∷ 50 ∷ 86 ∷ 33 ∷ 132 ∷ []))) ∷ [])) ≡ Wait 9
unfolding request_body string uint32 uint64 attributes
fs_read_10 = refl

pub fs_read_10_left : site_after_cancel (call.FsRead (97 ∷ []) 2) (with_slot
    (with_slot (with_slot fresh_site 0 (Buffered (file_at 1 true false 16)
    (record { len = 3; bytes = []; deferred = []; reading = None }))) 1 (File (file_at 0 false true 4))) 2
    (Buffered (file_at 1 true true 0) (record {
      len = 2;
      bytes = [];
      deferred = ((2, 1) ∷ (3, 2) ∷ []);
      reading =
          (Some 4);
    }))) (facts 31 5 1 3 2) ((5, (request.OpenFile (97 ∷ []) (record { 0 = 1 }) (attributes_of None None))) ∷
    (7, (request.Read (6 ∷ 98 ∷ 102 ∷ []) 0 5)) ∷ (9, (request.Read (6 ∷ 98 ∷ 102 ∷ []) 5 5)) ∷
    (11, (request.Read (6 ∷ 98 ∷ 102 ∷ []) 10 5)) ∷ []) (known
    ((0, (reply.Handle (0 ∷ 7 ∷ []))) ∷ (1, (reply.Handle (1 ∷ 7 ∷ []))) ∷ (2, (status 0)) ∷ (3, (status 0)) ∷
    (5, (reply.Handle (6 ∷ 98 ∷ 102 ∷ []))) ∷ (7, (reply.Content (237 ∷ 50 ∷ 86 ∷ 33 ∷ 132 ∷ []))) ∷ []))
    ≡ (with_slot (with_slot (with_slot fresh_site 0 (Buffered (file_at 1 true false 16)
    (record { len = 3; bytes = []; deferred = []; reading = None }))) 1 (File (file_at 0 false true 4))) 2
    (Buffered (file_at 1 true true 0) (record {
      len = 2;
      bytes = [];
      deferred = ((2, 1) ∷ (3, 2) ∷ []);
      reading =
          (Some 4);
    })))
fs_read_10_left = refl

pub fs_read_11 : next (call.FsRead (47 ∷ 97 ∷ []) 4) (with_slot
    (with_slot fresh_site 1 (File (file_at 1 true true 18446744073709551615))) 2 (File (file_at 1 true true 0)))
    (facts 48 4 4 4 3) ((2, (request.OpenFile (47 ∷ 97 ∷ []) (record { 0 = 1 }) (attributes_of None None))) ∷
    (3, (request.Read (240 ∷ []) 0 4)) ∷ (5, (request.Read (240 ∷ []) 4 4)) ∷ (6, (request.Read (240 ∷ []) 8 4)) ∷ [])
    (known ((0, (reply.Handle (0 ∷ 7 ∷ []))) ∷ (1, (reply.Handle (1 ∷ 7 ∷ []))) ∷ (2, (reply.Handle (240 ∷ []))) ∷
    (3, (reply.Content (55 ∷ 228 ∷ 134 ∷ 12 ∷ []))) ∷ (6, (reply.Content (52 ∷ 139 ∷ 227 ∷ 119 ∷ []))) ∷ []))
    ≡ Ask (request.Read (240 ∷ []) 12 4)
unfolding request_body string uint32 uint64 attributes
fs_read_11 = refl

pub fs_read_11_left : site_after_cancel (call.FsRead (47 ∷ 97 ∷ []) 4)
    (with_slot (with_slot fresh_site 1 (File (file_at 1 true true 18446744073709551615))) 2
    (File (file_at 1 true true 0))) (facts 48 4 4 4 3) ((
      2,
      (request.OpenFile (47 ∷ 97 ∷ []) (record { 0 = 1 })
          (attributes_of None None)),
    ) ∷ (3, (request.Read (240 ∷ []) 0 4)) ∷ (5, (request.Read (240 ∷ []) 4 4)) ∷
    (6, (request.Read (240 ∷ []) 8 4)) ∷ []) (known ((0, (reply.Handle (0 ∷ 7 ∷ []))) ∷ (1, (reply.Handle (1 ∷ 7 ∷ [])))
    ∷ (2, (reply.Handle (240 ∷ []))) ∷ (3, (reply.Content (55 ∷ 228 ∷ 134 ∷ 12 ∷ []))) ∷
    (6, (reply.Content (52 ∷ 139 ∷ 227 ∷ 119 ∷ []))) ∷ [])) ≡ (with_slot
    (with_slot fresh_site 1 (File (file_at 1 true true 18446744073709551615))) 2 (File (file_at 1 true true 0)))
fs_read_11_left = refl

pub fs_read_12 : next (call.FsRead (97 ∷ []) 2) (with_slot (with_slot
    (with_slot fresh_site 0 (File (file_at 0 false true 0))) 1 (File (file_at 0 false true 19))) 2
    (File (file_at 0 true true 18446744073709551611))) (facts 42 1 2 6 4)
    ((1, (request.OpenFile (97 ∷ []) (record { 0 = 1 }) (attributes_of None None))) ∷ [])
    (known ((0, (reply.Handle (0 ∷ 7 ∷ []))) ∷ (1, (reply.Handle (7 ∷ 223 ∷ []))) ∷ []))
    ≡ Ask (request.Read (7 ∷ 223 ∷ []) 0 1)
unfolding request_body string uint32 uint64 attributes
fs_read_12 = refl

pub fs_read_12_left : site_after_cancel (call.FsRead (97 ∷ []) 2) (with_slot
    (with_slot (with_slot fresh_site 0 (File (file_at 0 false true 0))) 1 (File (file_at 0 false true 19))) 2
    (File (file_at 0 true true 18446744073709551611))) (facts 42 1 2 6 4)
    ((1, (request.OpenFile (97 ∷ []) (record { 0 = 1 }) (attributes_of None None))) ∷ [])
    (known ((0, (reply.Handle (0 ∷ 7 ∷ []))) ∷ (1, (reply.Handle (7 ∷ 223 ∷ []))) ∷ []))
    ≡ (with_slot (with_slot (with_slot fresh_site 0 (File (file_at 0 false true 0))) 1 (File (file_at 0 false true 19)))
    2 (File (file_at 0 true true 18446744073709551611)))
fs_read_12_left = refl

pub fs_read_13 : next (call.FsRead (47 ∷ []) 2) (with_slot (with_slot
    (with_slot (record fresh_site { directory = (47 ∷ 120 ∷ []) }) 0 (File (file_at 0 true true 6))) 1
    (Buffered (file_at 0 false true 18446744073709551613) (record
    { len = 1; bytes = []; deferred = ((1, 4) ∷ (2, 3) ∷ []); reading = None }))) 2 (File (file_at 0 false true 0)))
    (facts 31 1 4 7 1) ((3, (request.OpenFile (47 ∷ []) (record { 0 = 1 }) (attributes_of None None))) ∷
    (4, (request.Read (76 ∷ 220 ∷ 174 ∷ []) 0 1)) ∷ (5, (request.Read (76 ∷ 220 ∷ 174 ∷ []) 1 1)) ∷ [])
    (known ((0, (reply.Handle (0 ∷ 7 ∷ []))) ∷ (1, (status 0)) ∷ (3, (reply.Handle (76 ∷ 220 ∷ 174 ∷ []))) ∷
    (4, (reply.Content (105 ∷ []))) ∷ [])) ≡ Wait 5
unfolding request_body string uint32 uint64 attributes
fs_read_13 = refl

pub fs_read_13_left : site_after_cancel (call.FsRead (47 ∷ []) 2) (with_slot
    (with_slot (with_slot (record fresh_site { directory = (47 ∷ 120 ∷ []) }) 0 (File (file_at 0 true true 6))) 1
    (Buffered (file_at 0 false true 18446744073709551613) (record
    { len = 1; bytes = []; deferred = ((1, 4) ∷ (2, 3) ∷ []); reading = None }))) 2 (File (file_at 0 false true 0)))
    (facts 31 1 4 7 1) ((3, (request.OpenFile (47 ∷ []) (record { 0 = 1 }) (attributes_of None None))) ∷
    (4, (request.Read (76 ∷ 220 ∷ 174 ∷ []) 0 1)) ∷ (5, (request.Read (76 ∷ 220 ∷ 174 ∷ []) 1 1)) ∷ [])
    (known ((0, (reply.Handle (0 ∷ 7 ∷ []))) ∷ (1, (status 0)) ∷ (3, (reply.Handle (76 ∷ 220 ∷ 174 ∷ []))) ∷
    (4, (reply.Content (105 ∷ []))) ∷ [])) ≡ (with_slot (with_slot
    (with_slot (record fresh_site { directory = (47 ∷ 120 ∷ []) }) 0 (File (file_at 0 true true 6))) 1
    (Buffered (file_at 0 false true 18446744073709551613) (record
    { len = 1; bytes = []; deferred = ((1, 4) ∷ (2, 3) ∷ []); reading = None }))) 2 (File (file_at 0 false true 0)))
fs_read_13_left = refl

pub fs_read_14 : next (call.FsRead (47 ∷ 97 ∷ []) 1) (with_slot
    (with_slot (with_slot fresh_site 0 (File (file_at 0 false true 19))) 1
    (Buffered (file_at 0 true true 18446744073709551613) (record
    { len = 2; bytes = (21 ∷ 96 ∷ 96 ∷ 189 ∷ []); deferred = []; reading = None }))) 2 (File (file_at 0 true false 0)))
    (facts 38 4 1 3 1) ((1, (request.OpenFile (47 ∷ 97 ∷ []) (record { 0 = 1 }) (attributes_of None None))) ∷
    (2, (request.Read (116 ∷ []) 0 4)) ∷ []) (known ((0, (reply.Handle (0 ∷ 7 ∷ []))) ∷ (1, (reply.Handle (116 ∷ []))) ∷
    (2, (reply.Content (19 ∷ 237 ∷ 70 ∷ []))) ∷ [])) ≡ Done outcome.GivenUp
    (with_slot (with_slot (with_slot fresh_site 0 (File (file_at 0 false true 19))) 1
    (Buffered (file_at 0 true true 18446744073709551613) (record
    { len = 2; bytes = (21 ∷ 96 ∷ 96 ∷ 189 ∷ []); deferred = []; reading = None }))) 2 (File (file_at 0 true false 0)))
unfolding request_body string uint32 uint64 attributes
fs_read_14 = refl

pub fs_read_14_left : site_after_cancel (call.FsRead (47 ∷ 97 ∷ []) 1)
    (with_slot (with_slot (with_slot fresh_site 0 (File (file_at 0 false true 19))) 1
    (Buffered (file_at 0 true true 18446744073709551613) (record
    { len = 2; bytes = (21 ∷ 96 ∷ 96 ∷ 189 ∷ []); deferred = []; reading = None }))) 2 (File (file_at 0 true false 0)))
    (facts 38 4 1 3 1) ((1, (request.OpenFile (47 ∷ 97 ∷ []) (record { 0 = 1 }) (attributes_of None None))) ∷
    (2, (request.Read (116 ∷ []) 0 4)) ∷ []) (known ((0, (reply.Handle (0 ∷ 7 ∷ []))) ∷ (1, (reply.Handle (116 ∷ []))) ∷
    (2, (reply.Content (19 ∷ 237 ∷ 70 ∷ []))) ∷ [])) ≡ (with_slot
    (with_slot (with_slot fresh_site 0 (File (file_at 0 false true 19))) 1
    (Buffered (file_at 0 true true 18446744073709551613) (record
    { len = 2; bytes = (21 ∷ 96 ∷ 96 ∷ 189 ∷ []); deferred = []; reading = None }))) 2 (File (file_at 0 true false 0)))
fs_read_14_left = refl

pub fs_read_15 : next (call.FsRead (97 ∷ 98 ∷ []) 1) (with_slot
    (with_slot (record fresh_site { directory = (47 ∷ 120 ∷ []) }) 1 (File (file_at 0 true true 9))) 2
    (File (file_at 0 false true 18446744073709551611))) (facts 46 3 3 3 3)
    ((1, (request.OpenFile (47 ∷ 120 ∷ 47 ∷ 97 ∷ 98 ∷ []) (record { 0 = 1 }) (attributes_of None None))) ∷
    (3, (request.Read (163 ∷ 59 ∷ []) 0 3)) ∷ (4, (request.Read (163 ∷ 59 ∷ []) 3 3)) ∷
    (5, (request.Read (163 ∷ 59 ∷ []) 6 3)) ∷ []) (known ((0, (reply.Handle (0 ∷ 7 ∷ []))) ∷
    (1, (reply.Handle (163 ∷ 59 ∷ []))) ∷ (3, (reply.Content (38 ∷ 18 ∷ 123 ∷ []))) ∷ (4, (reply.Content (201 ∷ []))) ∷
    [])) ≡ Done outcome.GivenUp (with_slot (with_slot (record fresh_site { directory = (47 ∷ 120 ∷ []) }) 1
    (File (file_at 0 true true 9))) 2 (File (file_at 0 false true 18446744073709551611)))
unfolding request_body string uint32 uint64 attributes
fs_read_15 = refl

pub fs_read_15_left : site_after_cancel (call.FsRead (97 ∷ 98 ∷ []) 1)
    (with_slot (with_slot (record fresh_site { directory = (47 ∷ 120 ∷ []) }) 1 (File (file_at 0 true true 9))) 2
    (File (file_at 0 false true 18446744073709551611))) (facts 46 3 3 3 3)
    ((1, (request.OpenFile (47 ∷ 120 ∷ 47 ∷ 97 ∷ 98 ∷ []) (record { 0 = 1 }) (attributes_of None None))) ∷
    (3, (request.Read (163 ∷ 59 ∷ []) 0 3)) ∷ (4, (request.Read (163 ∷ 59 ∷ []) 3 3)) ∷
    (5, (request.Read (163 ∷ 59 ∷ []) 6 3)) ∷ []) (known ((0, (reply.Handle (0 ∷ 7 ∷ []))) ∷
    (1, (reply.Handle (163 ∷ 59 ∷ []))) ∷ (3, (reply.Content (38 ∷ 18 ∷ 123 ∷ []))) ∷ (4, (reply.Content (201 ∷ []))) ∷
    [])) ≡ (with_slot (with_slot (record fresh_site { directory = (47 ∷ 120 ∷ []) }) 1 (File (file_at 0 true true 9))) 2
    (File (file_at 0 false true 18446744073709551611)))
fs_read_15_left = refl

pub fs_read_16 : next (call.FsRead (97 ∷ 98 ∷ []) 1) (with_slot (record fresh_site { directory = (47 ∷ 120 ∷ []) }) 2
    (Buffered (file_at 1 false true 7) (record {
      len = 2;
      bytes = (39 ∷ 3 ∷ 75 ∷ 232 ∷ []);
      deferred = ((2, 7) ∷ []);
      reading = None;
    }))) (facts 30 3 1 7 3) ((
      3,
      (request.OpenFile (47 ∷ 120 ∷ 47 ∷ 97 ∷ 98 ∷ []) (record { 0 = 1 })
          (attributes_of None None)),
    ) ∷ (5, (request.Read (128 ∷ []) 0 3)) ∷ [])
    (known ((0, (status 0)) ∷ (1, (reply.Handle (1 ∷ 7 ∷ []))) ∷ (2, (status 4)) ∷ (3, (reply.Handle (128 ∷ []))) ∷
    (5, (status 1)) ∷ [])) ≡ Done (outcome.Bytes []) (with_slot (record fresh_site { directory = (47 ∷ 120 ∷ []) }) 2
    (Buffered (file_at 1 false true 7) (record {
      len = 2;
      bytes = (39 ∷ 3 ∷ 75 ∷ 232 ∷ []);
      deferred = ((2, 7) ∷ []);
      reading = None;
    })))
unfolding request_body string uint32 uint64 attributes
fs_read_16 = refl

pub fs_read_16_left : site_after_cancel (call.FsRead (97 ∷ 98 ∷ []) 1)
    (with_slot (record fresh_site { directory = (47 ∷ 120 ∷ []) }) 2
    (Buffered (file_at 1 false true 7) (record {
      len = 2;
      bytes = (39 ∷ 3 ∷ 75 ∷ 232 ∷ []);
      deferred = ((2, 7) ∷ []);
      reading = None;
    }))) (facts 30 3 1 7 3) ((
      3,
      (request.OpenFile (47 ∷ 120 ∷ 47 ∷ 97 ∷ 98 ∷ []) (record { 0 = 1 })
          (attributes_of None None)),
    ) ∷ (5, (request.Read (128 ∷ []) 0 3)) ∷ [])
    (known ((0, (status 0)) ∷ (1, (reply.Handle (1 ∷ 7 ∷ []))) ∷ (2, (status 4)) ∷ (3, (reply.Handle (128 ∷ []))) ∷
    (5, (status 1)) ∷ [])) ≡ (with_slot (record fresh_site { directory = (47 ∷ 120 ∷ []) }) 2
    (Buffered (file_at 1 false true 7) (record {
      len = 2;
      bytes = (39 ∷ 3 ∷ 75 ∷ 232 ∷ []);
      deferred = ((2, 7) ∷ []);
      reading = None;
    })))
fs_read_16_left = refl
