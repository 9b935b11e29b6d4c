-- States of plans drawn at random, each with the move or the site that an independent model gives.
use Rattle.std.specs.Prelude.{◌≡◌, true, false, [], ◌∷◌, Some, None, refl}
use Rattle.ssh_encoding.specs.Writing.{uint32, uint64, string}
use Rattle.sftp_model.specs.declared.request.Request.TheVariants as request
use Rattle.sftp_model.specs.declared.reply.Reply.TheVariants as reply
use Rattle.sftp_model.specs.declared.outcome.Outcome.TheVariants as outcome
use Rattle.sftp_model.specs.declared.error.Error.TheVariants as error
use Rattle.sftp_model.specs.declared.slot.Move.TheVariants.{Ask, Wait, Done}
use Rattle.sftp_model.specs.Frames.{request_body, attributes}
use Rattle.sftp_model.specs.declared.slot.Slot.TheVariants.{File, Buffered}
use Rattle.sftp_model.specs.Slots.{fresh_site, with_slot}
use Rattle.plan_model.specs.declared.call.Call.TheVariants as call
use Rattle.plan_model.specs.CallPlans.{site_after_cancel, next}
use Rattle.sftp_model.specs.Answers.{status}
use Rattle.plan_model.specs.PlanWords.{known, facts, file_at, attributes_of}

pub remove_1_left : site_after_cancel (call.Remove []) (with_slot
    (with_slot (record fresh_site { directory = (120 ∷ []) }) 0
    (Buffered (file_at 1 true true 15) (record { len = 2; bytes = []; deferred = ((2, 1) ∷ []); reading = None }))) 2
    (File (file_at 1 true true 18446744073709551611))) (facts 43 4 3 6 1) ((3, (request.Remove (120 ∷ 47 ∷ []))) ∷ [])
    (known ((0, (reply.Handle (0 ∷ 7 ∷ []))) ∷ (1, (reply.Handle (1 ∷ 7 ∷ []))) ∷ (2, (status 0)) ∷ (3, (status 0)) ∷
    [])) ≡ (with_slot (with_slot (record fresh_site { directory = (120 ∷ []) }) 0
    (Buffered (file_at 1 true true 15) (record { len = 2; bytes = []; deferred = ((2, 1) ∷ []); reading = None }))) 2
    (File (file_at 1 true true 18446744073709551611)))
remove_1_left = refl

pub remove_2 : next (call.Remove (47 ∷ [])) (with_slot (with_slot fresh_site 0 (File (file_at 0 true true 1))) 2
    (Buffered (file_at 0 true false 13) (record { len = 3; bytes = (103 ∷ 177 ∷ []); deferred = []; reading = None })))
    (facts 27 4 1 5 3) ((1, (request.Remove (47 ∷ []))) ∷ []) (known ((0, (reply.Handle (0 ∷ 7 ∷ []))) ∷ [])) ≡ Wait 1
unfolding request_body string uint32 uint64 attributes
remove_2 = refl

pub remove_2_left : site_after_cancel (call.Remove (47 ∷ []))
    (with_slot (with_slot fresh_site 0 (File (file_at 0 true true 1)))
    2 (Buffered (file_at 0 true false 13) (record {
      len = 3;
      bytes = (103 ∷ 177 ∷ []);
      deferred = [];
      reading =
          None;
    }))) (facts 27 4 1 5 3) ((1, (request.Remove (47 ∷ []))) ∷ []) (known ((0, (reply.Handle (0 ∷ 7 ∷ []))) ∷ []))
    ≡ (with_slot (with_slot fresh_site 0 (File (file_at 0 true true 1))) 2
    (Buffered (file_at 0 true false 13) (record { len = 3; bytes = (103 ∷ 177 ∷ []); deferred = []; reading = None })))
remove_2_left = refl

pub remove_3 : next (call.Remove (97 ∷ 47 ∷ 98 ∷ [])) (with_slot
    (with_slot (record fresh_site { directory = (120 ∷ 47 ∷ []) }) 0 (File (file_at 1 true true 18446744073709551613)))
    1 (File (file_at 2 true true 0))) (facts 41 2 3 6 2) [] (known
    ((0, (status 0)) ∷ (1, (reply.Handle (1 ∷ 7 ∷ []))) ∷ (2, (reply.Handle (2 ∷ 7 ∷ []))) ∷ []))
    ≡ Ask (request.Remove (120 ∷ 47 ∷ 97 ∷ 47 ∷ 98 ∷ []))
unfolding request_body string uint32 uint64 attributes
remove_3 = refl

pub mkdir_1 : next (call.Mkdir []) (with_slot (with_slot fresh_site 1 (File (file_at 1 true true 18446744073709551611)))
    2 (Buffered (file_at 2 true true 0) (record { len = 4; bytes = []; deferred = ((3, 6) ∷ []); reading = None })))
    (facts 33 2 4 6 1) ((4, (request.Mkdir [] (attributes_of None None))) ∷ [])
    (known ((0, (status 0)) ∷ (1, (reply.Handle (1 ∷ 7 ∷ []))) ∷ (2, (reply.Handle (2 ∷ 7 ∷ []))) ∷ (3, (status 1)) ∷
    [])) ≡ Wait 4
unfolding request_body string uint32 uint64 attributes
mkdir_1 = refl

pub mkdir_1_left : site_after_cancel (call.Mkdir []) (with_slot (with_slot fresh_site 1
    (File (file_at 1 true true 18446744073709551611))) 2 (Buffered (file_at 2 true true 0)
    (record { len = 4; bytes = []; deferred = ((3, 6) ∷ []); reading = None }))) (facts 33 2 4 6 1)
    ((4, (request.Mkdir [] (attributes_of None None))) ∷ []) (known
    ((0, (status 0)) ∷ (1, (reply.Handle (1 ∷ 7 ∷ []))) ∷ (2, (reply.Handle (2 ∷ 7 ∷ []))) ∷ (3, (status 1)) ∷ []))
    ≡ (with_slot (with_slot fresh_site 1 (File (file_at 1 true true 18446744073709551611))) 2
    (Buffered (file_at 2 true true 0) (record { len = 4; bytes = []; deferred = ((3, 6) ∷ []); reading = None })))
mkdir_1_left = refl

pub mkdir_2 : next (call.Mkdir (97 ∷ 47 ∷ 98 ∷ [])) (with_slot fresh_site 0 (File (file_at 0 true false 14)))
    (facts 60 5 1 4 3) ((1, (request.Mkdir (97 ∷ 47 ∷ 98 ∷ []) (attributes_of None None))) ∷ [])
    (known ((0, (reply.Handle (0 ∷ 7 ∷ []))) ∷ (1, (status 0)) ∷ []))
    ≡ Done outcome.Done (with_slot fresh_site 0 (File (file_at 0 true false 14)))
unfolding request_body string uint32 uint64 attributes
mkdir_2 = refl

pub mkdir_2_left : site_after_cancel (call.Mkdir (97 ∷ 47 ∷ 98 ∷ []))
    (with_slot fresh_site 0 (File (file_at 0 true false 14)))
    (facts 60 5 1 4 3) ((1, (request.Mkdir (97 ∷ 47 ∷ 98 ∷ []) (attributes_of None None))) ∷ [])
    (known ((0, (reply.Handle (0 ∷ 7 ∷ []))) ∷ (1, (status 0)) ∷ []))
    ≡ (with_slot fresh_site 0 (File (file_at 0 true false 14)))
mkdir_2_left = refl

pub mkdir_3 : next (call.Mkdir (97 ∷ 47 ∷ 98 ∷ [])) (with_slot
    (with_slot (record fresh_site { directory = (120 ∷ 47 ∷ []) }) 1 (File (file_at 1 true true 8))) 2
    (Buffered (file_at 0 false true 5) (record { len = 2; bytes = []; deferred = ((2, 3) ∷ []); reading = None })))
    (facts 18 4 1 3 4) [] (known ((0, (reply.Handle (0 ∷ 7 ∷ []))) ∷ (1, (reply.Handle (1 ∷ 7 ∷ []))) ∷ (2, (status 0))
    ∷ [])) ≡ Ask (request.Mkdir (120 ∷ 47 ∷ 97 ∷ 47 ∷ 98 ∷ []) (attributes_of None None))
unfolding request_body string uint32 uint64 attributes
mkdir_3 = refl

pub rmdir_1 : next (call.Rmdir (47 ∷ [])) (with_slot (with_slot
    (with_slot (record fresh_site { directory = (120 ∷ []) }) 0
    (Buffered (file_at 0 true false 18446744073709551613) (record
    { len = 1; bytes = []; deferred = []; reading = None }))) 1 (File (file_at 0 true true 0))) 2
    (File (file_at 0 true true 11))) (facts 49 4 3 4 3) ((1, (request.Rmdir (47 ∷ []))) ∷ [])
    (known ((0, (reply.Handle (0 ∷ 7 ∷ []))) ∷ (1, (status 0)) ∷ []))
    ≡ Done outcome.Done (with_slot (with_slot (with_slot (record fresh_site { directory = (120 ∷ []) }) 0
    (Buffered (file_at 0 true false 18446744073709551613) (record
    { len = 1; bytes = []; deferred = []; reading = None }))) 1 (File (file_at 0 true true 0))) 2
    (File (file_at 0 true true 11)))
unfolding request_body string uint32 uint64 attributes
rmdir_1 = refl

pub rmdir_1_left : site_after_cancel (call.Rmdir (47 ∷ [])) (with_slot
    (with_slot (with_slot (record fresh_site { directory = (120 ∷ []) }) 0
    (Buffered (file_at 0 true false 18446744073709551613) (record
    { len = 1; bytes = []; deferred = []; reading = None }))) 1 (File (file_at 0 true true 0))) 2
    (File (file_at 0 true true 11))) (facts 49 4 3 4 3) ((1, (request.Rmdir (47 ∷ []))) ∷ [])
    (known ((0, (reply.Handle (0 ∷ 7 ∷ []))) ∷ (1, (status 0)) ∷ []))
    ≡ (with_slot (with_slot (with_slot (record fresh_site { directory = (120 ∷ []) }) 0
    (Buffered (file_at 0 true false 18446744073709551613) (record
    { len = 1; bytes = []; deferred = []; reading = None }))) 1 (File (file_at 0 true true 0))) 2
    (File (file_at 0 true true 11)))
rmdir_1_left = refl

pub rmdir_2 : next (call.Rmdir (97 ∷ 98 ∷ [])) (with_slot (with_slot
    (with_slot (record fresh_site { directory = (120 ∷ 47 ∷ []) }) 0 (File (file_at 0 true true 18446744073709551612)))
    1 (Buffered (file_at 0 false true 0) (record {
      len = 5;
      bytes = (157 ∷ 115 ∷ 224 ∷ 207 ∷ []);
      deferred = [];
      reading = None;
    }))) 2 (Buffered (file_at 0 false true 10) (record
    { len = 4; bytes = []; deferred = ((1, 7) ∷ []); reading = None }))) (facts 42 5 2 7 1)
    ((2, (request.Rmdir (120 ∷ 47 ∷ 97 ∷ 98 ∷ []))) ∷ []) (known
    ((0, (reply.Handle (0 ∷ 7 ∷ []))) ∷ (1, (status 0)) ∷ [])) ≡ Wait 2
unfolding request_body string uint32 uint64 attributes
rmdir_2 = refl

pub rmdir_2_left : site_after_cancel (call.Rmdir (97 ∷ 98 ∷ [])) (with_slot
    (with_slot (with_slot (record fresh_site { directory = (120 ∷ 47 ∷ []) }) 0
    (File (file_at 0 true true 18446744073709551612))) 1 (Buffered (file_at 0 false true 0)
    (record { len = 5; bytes = (157 ∷ 115 ∷ 224 ∷ 207 ∷ []); deferred = []; reading = None }))) 2
    (Buffered (file_at 0 false true 10) (record { len = 4; bytes = []; deferred = ((1, 7) ∷ []); reading = None })))
    (facts 42 5 2 7 1) ((2, (request.Rmdir (120 ∷ 47 ∷ 97 ∷ 98 ∷ []))) ∷ [])
    (known ((0, (reply.Handle (0 ∷ 7 ∷ []))) ∷ (1, (status 0)) ∷ []))
    ≡ (with_slot (with_slot (with_slot (record fresh_site { directory = (120 ∷ 47 ∷ []) }) 0
    (File (file_at 0 true true 18446744073709551612))) 1 (Buffered (file_at 0 false true 0)
    (record { len = 5; bytes = (157 ∷ 115 ∷ 224 ∷ 207 ∷ []); deferred = []; reading = None }))) 2
    (Buffered (file_at 0 false true 10) (record { len = 4; bytes = []; deferred = ((1, 7) ∷ []); reading = None })))
rmdir_2_left = refl

pub rmdir_3 : next (call.Rmdir (47 ∷ [])) (with_slot (with_slot (record fresh_site { directory = (120 ∷ []) }) 0
    (Buffered (file_at 0 true true 9) (record { len = 1; bytes = []; deferred = ((1, 6) ∷ []); reading = (Some 2) }))) 1
    (File (file_at 0 true true 18446744073709551615))) (facts 7 5 2 6 2) ((3, (request.Rmdir (47 ∷ []))) ∷ [])
    (known ((0, (reply.Handle (0 ∷ 7 ∷ []))) ∷ (3, (status 2)) ∷ []))
    ≡ Done (outcome.Refused (error.SftpError 2 [] [])) (with_slot
    (with_slot (record fresh_site { directory = (120 ∷ []) }) 0
    (Buffered (file_at 0 true true 9) (record { len = 1; bytes = []; deferred = ((1, 6) ∷ []); reading = (Some 2) }))) 1
    (File (file_at 0 true true 18446744073709551615)))
unfolding request_body string uint32 uint64 attributes
rmdir_3 = refl

pub rmdir_3_left : site_after_cancel (call.Rmdir (47 ∷ [])) (with_slot
    (with_slot (record fresh_site { directory = (120 ∷ []) }) 0
    (Buffered (file_at 0 true true 9) (record { len = 1; bytes = []; deferred = ((1, 6) ∷ []); reading = (Some 2) }))) 1
    (File (file_at 0 true true 18446744073709551615))) (facts 7 5 2 6 2) ((3, (request.Rmdir (47 ∷ []))) ∷ [])
    (known ((0, (reply.Handle (0 ∷ 7 ∷ []))) ∷ (3, (status 2)) ∷ []))
    ≡ (with_slot (with_slot (record fresh_site { directory = (120 ∷ []) }) 0
    (Buffered (file_at 0 true true 9) (record { len = 1; bytes = []; deferred = ((1, 6) ∷ []); reading = (Some 2) }))) 1
    (File (file_at 0 true true 18446744073709551615)))
rmdir_3_left = refl

pub rename_1 : next (call.Rename [] (97 ∷ 47 ∷ 98 ∷ [])) (with_slot
    (with_slot fresh_site 1 (Buffered (file_at 1 true true 8) (record
    { len = 4; bytes = []; deferred = ((2, 1) ∷ (3, 1) ∷ (4, 2) ∷ []); reading = (Some 5) }))) 2
    (File (file_at 0 true true 15))) (facts 51 4 2 4 2) ((6, (request.PosixRename [] (97 ∷ 47 ∷ 98 ∷ []))) ∷ [])
    (known ((0, (reply.Handle (0 ∷ 7 ∷ []))) ∷ (1, (reply.Handle (1 ∷ 7 ∷ []))) ∷ (2, (status 1)) ∷ (3, (status 1)) ∷
    (4, (status 0)) ∷ (6, (status 0)) ∷ [])) ≡ Done outcome.Done
    (with_slot (with_slot fresh_site 1 (Buffered (file_at 1 true true 8)
    (record { len = 4; bytes = []; deferred = ((2, 1) ∷ (3, 1) ∷ (4, 2) ∷ []); reading = (Some 5) }))) 2
    (File (file_at 0 true true 15)))
unfolding request_body string uint32 uint64 attributes
rename_1 = refl

pub rename_1_left : site_after_cancel (call.Rename [] (97 ∷ 47 ∷ 98 ∷ []))
    (with_slot (with_slot fresh_site 1 (Buffered (file_at 1 true true 8)
    (record { len = 4; bytes = []; deferred = ((2, 1) ∷ (3, 1) ∷ (4, 2) ∷ []); reading = (Some 5) }))) 2
    (File (file_at 0 true true 15))) (facts 51 4 2 4 2) ((6, (request.PosixRename [] (97 ∷ 47 ∷ 98 ∷ []))) ∷ [])
    (known ((0, (reply.Handle (0 ∷ 7 ∷ []))) ∷ (1, (reply.Handle (1 ∷ 7 ∷ []))) ∷ (2, (status 1)) ∷ (3, (status 1)) ∷
    (4, (status 0)) ∷ (6, (status 0)) ∷ [])) ≡ (with_slot (with_slot fresh_site 1
    (Buffered (file_at 1 true true 8) (record {
      len = 4;
      bytes = [];
      deferred = ((2, 1) ∷ (3, 1) ∷ (4, 2) ∷ []);
      reading = (Some 5);
    }))) 2 (File (file_at 0 true true 15)))
rename_1_left = refl

pub rename_2 : next (call.Rename (47 ∷ 97 ∷ []) (97 ∷ [])) (with_slot
    (with_slot (record fresh_site { directory = (47 ∷ 120 ∷ []) }) 1 (File (file_at 0 true false 12))) 2
    (Buffered (file_at 0 false true 13) (record {
      len = 1;
      bytes = (4 ∷ []);
      deferred = ((2, 7) ∷ []);
      reading =
          None;
    }))) (facts 34 3 1 7 1) [] (known ((0, (reply.Handle (0 ∷ 7 ∷ []))) ∷ (1, (reply.Handle (1 ∷ 7 ∷ []))) ∷
    (2, (status 0)) ∷ [])) ≡ Ask (request.Rename (47 ∷ 97 ∷ []) (47 ∷ 120 ∷ 47 ∷ 97 ∷ []))
unfolding request_body string uint32 uint64 attributes
rename_2 = refl

pub rename_3 : next (call.Rename (97 ∷ 98 ∷ []) []) (with_slot
    (with_slot fresh_site 0 (File (file_at 1 false true 18446744073709551612))) 1
    (Buffered (file_at 1 true true 8) (record { len = 4; bytes = []; deferred = []; reading = (Some 3) })))
    (facts 47 4 3 3 4) ((4, (request.PosixRename (97 ∷ 98 ∷ []) [])) ∷ [])
    (known ((0, (status 0)) ∷ (1, (reply.Handle (1 ∷ 7 ∷ []))) ∷ (2, (reply.Handle (2 ∷ 7 ∷ []))) ∷
    (3, (reply.Content (96 ∷ 23 ∷ 88 ∷ 129 ∷ []))) ∷ [])) ≡ Wait 4
unfolding request_body string uint32 uint64 attributes
rename_3 = refl

pub rename_3_left : site_after_cancel (call.Rename (97 ∷ 98 ∷ []) [])
    (with_slot (with_slot fresh_site 0 (File (file_at 1 false true 18446744073709551612))) 1
    (Buffered (file_at 1 true true 8) (record { len = 4; bytes = []; deferred = []; reading = (Some 3) })))
    (facts 47 4 3 3 4) ((4, (request.PosixRename (97 ∷ 98 ∷ []) [])) ∷ [])
    (known ((0, (status 0)) ∷ (1, (reply.Handle (1 ∷ 7 ∷ []))) ∷ (2, (reply.Handle (2 ∷ 7 ∷ []))) ∷
    (3, (reply.Content (96 ∷ 23 ∷ 88 ∷ 129 ∷ []))) ∷ [])) ≡ (with_slot
    (with_slot fresh_site 0 (File (file_at 1 false true 18446744073709551612))) 1
    (Buffered (file_at 1 true true 8) (record { len = 4; bytes = []; deferred = []; reading = (Some 3) })))
rename_3_left = refl

pub rename_4 : next (call.Rename (47 ∷ 97 ∷ []) (97 ∷ 98 ∷ []))
    (with_slot (with_slot (with_slot (record fresh_site { directory = (120 ∷ []) }) 0
    (File (file_at 1 true true 18446744073709551612))) 1 (Buffered (file_at 1 true true 18)
    (record { len = 3; bytes = (76 ∷ 182 ∷ 137 ∷ []); deferred = ((2, 4) ∷ []); reading = None }))) 2
    (Buffered (file_at 0 true false 0) (record { len = 1; bytes = (106 ∷ 249 ∷ []); deferred = []; reading = None })))
    (facts 49 2 4 4 2) [] (known ((0, (reply.Handle (0 ∷ 7 ∷ []))) ∷ (1, (reply.Handle (1 ∷ 7 ∷ []))) ∷ []))
    ≡ Ask (request.PosixRename (47 ∷ 97 ∷ []) (120 ∷ 47 ∷ 97 ∷ 98 ∷ []))
unfolding request_body string uint32 uint64 attributes
rename_4 = refl

pub rename_5 : next (call.Rename (47 ∷ 97 ∷ []) (47 ∷ 97 ∷ []))
    (with_slot (with_slot (with_slot (record fresh_site { directory = (47 ∷ 120 ∷ []) }) 0
    (Buffered (file_at 0 true true 13) (record { len = 1; bytes = []; deferred = ((2, 3) ∷ []); reading = None }))) 1
    (Buffered (file_at 1 true true 0) (record { len = 1; bytes = []; deferred = ((3, 4) ∷ []); reading = None }))) 2
    (File (file_at 0 true true 0))) (facts 50 5 3 4 1) ((4, (request.Rename (47 ∷ 97 ∷ []) (47 ∷ 97 ∷ []))) ∷ [])
    (known ((0, (reply.Handle (0 ∷ 7 ∷ []))) ∷ (1, (reply.Handle (1 ∷ 7 ∷ []))) ∷ (2, (status 0)) ∷ (3, (status 0)) ∷
    (4, (status 2)) ∷ [])) ≡ Done (outcome.Refused (error.SftpError 2 [] []))
    (with_slot (with_slot (with_slot (record fresh_site { directory = (47 ∷ 120 ∷ []) }) 0
    (Buffered (file_at 0 true true 13) (record { len = 1; bytes = []; deferred = ((2, 3) ∷ []); reading = None }))) 1
    (Buffered (file_at 1 true true 0) (record { len = 1; bytes = []; deferred = ((3, 4) ∷ []); reading = None }))) 2
    (File (file_at 0 true true 0)))
unfolding request_body string uint32 uint64 attributes
rename_5 = refl

pub rename_5_left : site_after_cancel (call.Rename (47 ∷ 97 ∷ []) (47 ∷ 97 ∷ []))
    (with_slot (with_slot (with_slot (record fresh_site { directory = (47 ∷ 120 ∷ []) }) 0
    (Buffered (file_at 0 true true 13) (record { len = 1; bytes = []; deferred = ((2, 3) ∷ []); reading = None }))) 1
    (Buffered (file_at 1 true true 0) (record { len = 1; bytes = []; deferred = ((3, 4) ∷ []); reading = None }))) 2
    (File (file_at 0 true true 0))) (facts 50 5 3 4 1) ((4, (request.Rename (47 ∷ 97 ∷ []) (47 ∷ 97 ∷ []))) ∷ [])
    (known ((0, (reply.Handle (0 ∷ 7 ∷ []))) ∷ (1, (reply.Handle (1 ∷ 7 ∷ []))) ∷ (2, (status 0)) ∷ (3, (status 0)) ∷
    (4, (status 2)) ∷ [])) ≡ (with_slot (with_slot (with_slot (record fresh_site { directory = (47 ∷ 120 ∷ []) }) 0
    (Buffered (file_at 0 true true 13) (record { len = 1; bytes = []; deferred = ((2, 3) ∷ []); reading = None }))) 1
    (Buffered (file_at 1 true true 0) (record { len = 1; bytes = []; deferred = ((3, 4) ∷ []); reading = None }))) 2
    (File (file_at 0 true true 0)))
rename_5_left = refl

pub hard_link_1 : next (call.HardLink [] (97 ∷ [])) (with_slot
    (with_slot (with_slot fresh_site 0 (Buffered (file_at 1 true true 16)
    (record { len = 5; bytes = []; deferred = ((2, 7) ∷ []); reading = (Some 3) }))) 1
    (Buffered (file_at 0 true true 9) (record { len = 5; bytes = (90 ∷ 188 ∷ []); deferred = []; reading = None }))) 2
    (File (file_at 0 true true 0))) (facts 52 2 2 7 4) [] (known
    ((0, (reply.Handle (0 ∷ 7 ∷ []))) ∷ (1, (reply.Handle (1 ∷ 7 ∷ []))) ∷ []))
    ≡ Done (outcome.Refused (error.UnsupportedExtension (record { 0 = 2 })))
    (with_slot (with_slot (with_slot fresh_site 0 (Buffered (file_at 1 true true 16)
    (record { len = 5; bytes = []; deferred = ((2, 7) ∷ []); reading = (Some 3) }))) 1
    (Buffered (file_at 0 true true 9) (record { len = 5; bytes = (90 ∷ 188 ∷ []); deferred = []; reading = None }))) 2
    (File (file_at 0 true true 0)))
unfolding request_body string uint32 uint64 attributes
hard_link_1 = refl

pub hard_link_2 : next (call.HardLink (97 ∷ 47 ∷ 98 ∷ []) [])
    (with_slot (with_slot fresh_site 0 (File (file_at 1 true true 0))) 2
    (Buffered (file_at 2 false true 0) (record { len = 3; bytes = []; deferred = []; reading = None })))
    (facts 46 1 3 4 1) ((3, (request.Hardlink (97 ∷ 47 ∷ 98 ∷ []) [])) ∷ [])
    (known ((0, (status 0)) ∷ (1, (reply.Handle (1 ∷ 7 ∷ []))) ∷ (2, (reply.Handle (2 ∷ 7 ∷ []))) ∷ (3, (status 0)) ∷
    [])) ≡ Done outcome.Done (with_slot (with_slot fresh_site 0 (File (file_at 1 true true 0))) 2
    (Buffered (file_at 2 false true 0) (record { len = 3; bytes = []; deferred = []; reading = None })))
unfolding request_body string uint32 uint64 attributes
hard_link_2 = refl

pub hard_link_2_left : site_after_cancel (call.HardLink (97 ∷ 47 ∷ 98 ∷ []) [])
    (with_slot (with_slot fresh_site 0 (File (file_at 1 true true 0))) 2
    (Buffered (file_at 2 false true 0) (record { len = 3; bytes = []; deferred = []; reading = None })))
    (facts 46 1 3 4 1) ((3, (request.Hardlink (97 ∷ 47 ∷ 98 ∷ []) [])) ∷ [])
    (known ((0, (status 0)) ∷ (1, (reply.Handle (1 ∷ 7 ∷ []))) ∷ (2, (reply.Handle (2 ∷ 7 ∷ []))) ∷ (3, (status 0)) ∷
    [])) ≡ (with_slot (with_slot fresh_site 0 (File (file_at 1 true true 0))) 2
    (Buffered (file_at 2 false true 0) (record { len = 3; bytes = []; deferred = []; reading = None })))
hard_link_2_left = refl
