-- States of plans drawn at random, each with the move or the site that an independent model gives.
use Rattle.std.specs.Prelude.{◌≡◌, true, false, [], ◌∷◌, Some, None, refl}
use Rattle.ssh_encoding.specs.Writing.{uint32, uint64, string}
use Rattle.sftp_model.specs.declared.request.Request.TheVariants as request
use Rattle.sftp_model.specs.declared.reply.Reply.TheVariants as reply
use Rattle.sftp_model.specs.declared.outcome.Outcome.TheVariants as outcome
use Rattle.sftp_model.specs.declared.error.Error.TheVariants as error
use Rattle.sftp_model.specs.declared.slot.Move.TheVariants.{Ask, Wait, Done}
use Rattle.sftp_model.specs.Frames.{request_body, attributes}
use Rattle.sftp_model.specs.declared.slot.Slot.TheVariants.{File, Buffered}
use Rattle.sftp_model.specs.Slots.{fresh_site, with_slot}
use Rattle.plan_model.specs.declared.call.Call.TheVariants as call
use Rattle.plan_model.specs.CallPlans.{site_after_cancel, next}
use Rattle.sftp_model.specs.Answers.{status}
use Rattle.plan_model.specs.PlanWords.{known, facts, file_at, entry, attributes_of}

pub fs_write_4_left : site_after_cancel (call.FsWrite [] (161 ∷ 120 ∷ 110 ∷ 51 ∷ 14 ∷ 84 ∷ []))
    (with_slot (with_slot (record fresh_site { directory = (47 ∷ 120 ∷ []) }) 0 (File (file_at 0 false true 15))) 1
    (File (file_at 0 true true 18446744073709551614))) (facts 23 5 2 5 4)
    ((1, (request.OpenFile (47 ∷ 120 ∷ 47 ∷ []) (record { 0 = 26 }) (attributes_of None None))) ∷
    (2, (request.Write (50 ∷ 216 ∷ 44 ∷ []) 0 (161 ∷ 120 ∷ []))) ∷ [])
    (known ((0, (reply.Handle (0 ∷ 7 ∷ []))) ∷ (1, (reply.Handle (50 ∷ 216 ∷ 44 ∷ []))) ∷ (2, (status 0)) ∷ []))
    ≡ (with_slot (with_slot (record fresh_site { directory = (47 ∷ 120 ∷ []) }) 0 (File (file_at 0 false true 15))) 1
    (File (file_at 0 true true 18446744073709551614)))
fs_write_4_left = refl

pub fs_write_5 : next (call.FsWrite [] (238 ∷ 168 ∷ 225 ∷ 247 ∷ 39 ∷ 179 ∷ 88 ∷ []))
    (with_slot (with_slot (with_slot fresh_site 0 (Buffered (file_at 0 true true 0)
    (record { len = 4; bytes = []; deferred = ((1, 1) ∷ (2, 4) ∷ []); reading = None }))) 1
    (File (file_at 0 false true 18446744073709551614))) 2 (Buffered (file_at 0 true true 18)
    (record { len = 3; bytes = []; deferred = ((3, 1) ∷ []); reading = None }))) (facts 42 2 1 5 2)
    ((4, (request.OpenFile [] (record { 0 = 26 }) (attributes_of None None))) ∷
    (5, (request.Write (192 ∷ 160 ∷ 238 ∷ []) 0 (238 ∷ []))) ∷ (6, (request.Write (192 ∷ 160 ∷ 238 ∷ []) 1 (168 ∷ [])))
    ∷ []) (known ((0, (reply.Handle (0 ∷ 7 ∷ []))) ∷ (2, (status 1)) ∷ (3, (status 0)) ∷
    (4, (reply.Handle (192 ∷ 160 ∷ 238 ∷ []))) ∷ (5, (status 0)) ∷ (6, (status 0)) ∷ []))
    ≡ Ask (request.Write (192 ∷ 160 ∷ 238 ∷ []) 2 (225 ∷ []))
unfolding request_body string uint32 uint64 attributes
fs_write_5 = refl

pub fs_write_5_left : site_after_cancel (call.FsWrite [] (238 ∷ 168 ∷ 225 ∷ 247 ∷ 39 ∷ 179 ∷ 88 ∷ []))
    (with_slot (with_slot (with_slot fresh_site 0 (Buffered (file_at 0 true true 0)
    (record { len = 4; bytes = []; deferred = ((1, 1) ∷ (2, 4) ∷ []); reading = None }))) 1
    (File (file_at 0 false true 18446744073709551614))) 2 (Buffered (file_at 0 true true 18)
    (record { len = 3; bytes = []; deferred = ((3, 1) ∷ []); reading = None }))) (facts 42 2 1 5 2)
    ((4, (request.OpenFile [] (record { 0 = 26 }) (attributes_of None None))) ∷
    (5, (request.Write (192 ∷ 160 ∷ 238 ∷ []) 0 (238 ∷ []))) ∷ (6, (request.Write (192 ∷ 160 ∷ 238 ∷ []) 1 (168 ∷ [])))
    ∷ []) (known ((0, (reply.Handle (0 ∷ 7 ∷ []))) ∷ (2, (status 1)) ∷ (3, (status 0)) ∷
    (4, (reply.Handle (192 ∷ 160 ∷ 238 ∷ []))) ∷ (5, (status 0)) ∷ (6, (status 0)) ∷ []))
    ≡ (with_slot (with_slot (with_slot fresh_site 0 (Buffered (file_at 0 true true 0)
    (record { len = 4; bytes = []; deferred = ((1, 1) ∷ (2, 4) ∷ []); reading = None }))) 1
    (File (file_at 0 false true 18446744073709551614))) 2 (Buffered (file_at 0 true true 18)
    (record { len = 3; bytes = []; deferred = ((3, 1) ∷ []); reading = None })))
fs_write_5_left = refl

pub fs_write_6 : next (call.FsWrite (97 ∷ []) []) (record fresh_site { directory = (120 ∷ 47 ∷ []) }) (facts 47 1 3 6 2)
    [] (known ((0, (status 0)) ∷ (1, (reply.Handle (1 ∷ 7 ∷ []))) ∷ []))
    ≡ Ask (request.OpenFile (120 ∷ 47 ∷ 97 ∷ []) (record { 0 = 26 }) (attributes_of None None))
unfolding request_body string uint32 uint64 attributes
fs_write_6 = refl

pub fs_write_7 : next (call.FsWrite [] (173 ∷ 87 ∷ 147 ∷ 190 ∷ 175 ∷ 140 ∷ []))
    (with_slot (with_slot (with_slot fresh_site 0 (File (file_at 0 true true 3))) 1 (File (file_at 1 true true 14))) 2
    (File (file_at 1 true true 18446744073709551614))) (facts 32 5 4 4 1)
    ((2, (request.OpenFile [] (record { 0 = 26 }) (attributes_of None None))) ∷
    (4, (request.Write (110 ∷ []) 0 (173 ∷ 87 ∷ 147 ∷ 190 ∷ []))) ∷ [])
    (known ((0, (reply.Handle (0 ∷ 7 ∷ []))) ∷ (1, (reply.Handle (1 ∷ 7 ∷ []))) ∷ (2, (reply.Handle (110 ∷ []))) ∷ []))
    ≡ Wait 4
unfolding request_body string uint32 uint64 attributes
fs_write_7 = refl

pub fs_write_7_left : site_after_cancel (call.FsWrite [] (173 ∷ 87 ∷ 147 ∷ 190 ∷ 175 ∷ 140 ∷ []))
    (with_slot (with_slot (with_slot fresh_site 0 (File (file_at 0 true true 3))) 1 (File (file_at 1 true true 14))) 2
    (File (file_at 1 true true 18446744073709551614))) (facts 32 5 4 4 1)
    ((2, (request.OpenFile [] (record { 0 = 26 }) (attributes_of None None))) ∷
    (4, (request.Write (110 ∷ []) 0 (173 ∷ 87 ∷ 147 ∷ 190 ∷ []))) ∷ [])
    (known ((0, (reply.Handle (0 ∷ 7 ∷ []))) ∷ (1, (reply.Handle (1 ∷ 7 ∷ []))) ∷ (2, (reply.Handle (110 ∷ []))) ∷ []))
    ≡ (with_slot (with_slot (with_slot fresh_site 0 (File (file_at 0 true true 3))) 1 (File (file_at 1 true true 14))) 2
    (File (file_at 1 true true 18446744073709551614)))
fs_write_7_left = refl

pub fs_write_8 : next (call.FsWrite (47 ∷ 97 ∷ []) (244 ∷ 238 ∷ 202 ∷ 204 ∷ 153 ∷ 17 ∷ 155 ∷ []))
    (with_slot (with_slot fresh_site 1 (File (file_at 2 true true 18446744073709551615))) 2
    (File (file_at 2 false true 9))) (facts 15 3 1 6 3) ((
      3,
      (request.OpenFile (47 ∷ 97 ∷ []) (record { 0 = 26 })
          (attributes_of None None)),
    ) ∷ (5, (request.Write (95 ∷ 223 ∷ 114 ∷ []) 0 (244 ∷ []))) ∷
    (6, (request.Write (95 ∷ 223 ∷ 114 ∷ []) 1 (238 ∷ []))) ∷ (8, (request.Write (95 ∷ 223 ∷ 114 ∷ []) 2 (202 ∷ []))) ∷
    []) (known ((0, (status 0)) ∷ (1, (reply.Handle (1 ∷ 7 ∷ []))) ∷ (2, (reply.Handle (2 ∷ 7 ∷ []))) ∷
    (3, (reply.Handle (95 ∷ 223 ∷ 114 ∷ []))) ∷ (5, (status 0)) ∷ (6, (status 0)) ∷ (8, (status 0)) ∷ []))
    ≡ Ask (request.Write (95 ∷ 223 ∷ 114 ∷ []) 3 (204 ∷ []))
unfolding request_body string uint32 uint64 attributes
fs_write_8 = refl

pub fs_write_8_left : site_after_cancel (call.FsWrite (47 ∷ 97 ∷ []) (244 ∷ 238 ∷ 202 ∷ 204 ∷ 153 ∷ 17 ∷ 155 ∷ []))
    (with_slot (with_slot fresh_site 1 (File (file_at 2 true true 18446744073709551615))) 2
    (File (file_at 2 false true 9))) (facts 15 3 1 6 3) ((
      3,
      (request.OpenFile (47 ∷ 97 ∷ []) (record { 0 = 26 })
          (attributes_of None None)),
    ) ∷ (5, (request.Write (95 ∷ 223 ∷ 114 ∷ []) 0 (244 ∷ []))) ∷
    (6, (request.Write (95 ∷ 223 ∷ 114 ∷ []) 1 (238 ∷ []))) ∷ (8, (request.Write (95 ∷ 223 ∷ 114 ∷ []) 2 (202 ∷ []))) ∷
    []) (known ((0, (status 0)) ∷ (1, (reply.Handle (1 ∷ 7 ∷ []))) ∷ (2, (reply.Handle (2 ∷ 7 ∷ []))) ∷
    (3, (reply.Handle (95 ∷ 223 ∷ 114 ∷ []))) ∷ (5, (status 0)) ∷ (6, (status 0)) ∷ (8, (status 0)) ∷ []))
    ≡ (with_slot (with_slot fresh_site 1 (File (file_at 2 true true 18446744073709551615))) 2
    (File (file_at 2 false true 9)))
fs_write_8_left = refl

pub list_1 : next (call.List (97 ∷ 98 ∷ []) 4) (with_slot (with_slot
    (with_slot (record fresh_site { directory = (120 ∷ 47 ∷ []) }) 0 (File (file_at 0 true true 18446744073709551613)))
    1 (File (file_at 0 true true 18446744073709551612))) 2 (File (file_at 0 false true 15))) (facts 63 5 4 3 2) []
    (known ((0, (reply.Handle (0 ∷ 7 ∷ []))) ∷ [])) ≡ Ask (request.Opendir (120 ∷ 47 ∷ 97 ∷ 98 ∷ []))
unfolding request_body string uint32 uint64 attributes
list_1 = refl

pub list_2 : next (call.List (97 ∷ 98 ∷ []) 3) (with_slot (with_slot
    (with_slot (record fresh_site { directory = (120 ∷ []) }) 0
    (Buffered (file_at 1 true true 16) (record {
      len = 2;
      bytes = [];
      deferred = ((2, 3) ∷ (3, 1) ∷ []);
      reading =
          (Some 4);
    }))) 1 (File (file_at 1 true true 0))) 2 (Buffered (file_at 1 false true 0)
    (record { len = 5; bytes = []; deferred = ((5, 1) ∷ (6, 2) ∷ (7, 2) ∷ []); reading = None }))) (facts 40 5 3 5 4)
    ((8, (request.Opendir (120 ∷ 47 ∷ 97 ∷ 98 ∷ []))) ∷ []) (known
    ((0, (reply.Handle (0 ∷ 7 ∷ []))) ∷ (1, (reply.Handle (1 ∷ 7 ∷ []))) ∷ (2, (status 4)) ∷ (3, (status 0)) ∷
    (4, (status 1)) ∷ (5, (status 0)) ∷ (6, (status 0)) ∷ (7, (status 0)) ∷ [])) ≡ Wait 8
unfolding request_body string uint32 uint64 attributes
list_2 = refl

pub list_2_left : site_after_cancel (call.List (97 ∷ 98 ∷ []) 3) (with_slot
    (with_slot (with_slot (record fresh_site { directory = (120 ∷ []) }) 0
    (Buffered (file_at 1 true true 16) (record {
      len = 2;
      bytes = [];
      deferred = ((2, 3) ∷ (3, 1) ∷ []);
      reading =
          (Some 4);
    }))) 1 (File (file_at 1 true true 0))) 2 (Buffered (file_at 1 false true 0)
    (record { len = 5; bytes = []; deferred = ((5, 1) ∷ (6, 2) ∷ (7, 2) ∷ []); reading = None }))) (facts 40 5 3 5 4)
    ((8, (request.Opendir (120 ∷ 47 ∷ 97 ∷ 98 ∷ []))) ∷ []) (known
    ((0, (reply.Handle (0 ∷ 7 ∷ []))) ∷ (1, (reply.Handle (1 ∷ 7 ∷ []))) ∷ (2, (status 4)) ∷ (3, (status 0)) ∷
    (4, (status 1)) ∷ (5, (status 0)) ∷ (6, (status 0)) ∷ (7, (status 0)) ∷ []))
    ≡ (with_slot (with_slot (with_slot (record fresh_site { directory = (120 ∷ []) }) 0
    (Buffered (file_at 1 true true 16) (record {
      len = 2;
      bytes = [];
      deferred = ((2, 3) ∷ (3, 1) ∷ []);
      reading =
          (Some 4);
    }))) 1 (File (file_at 1 true true 0))) 2 (Buffered (file_at 1 false true 0)
    (record { len = 5; bytes = []; deferred = ((5, 1) ∷ (6, 2) ∷ (7, 2) ∷ []); reading = None })))
list_2_left = refl

pub list_3 : next (call.List (97 ∷ 98 ∷ []) 2) (with_slot (record fresh_site { directory = (47 ∷ 120 ∷ []) }) 2
    (File (file_at 0 true true 0))) (facts 19 5 1 4 2) ((2, (request.Opendir (47 ∷ 120 ∷ 47 ∷ 97 ∷ 98 ∷ []))) ∷
    (3, (request.Readdir (203 ∷ []))) ∷ []) (known ((0, (reply.Handle (0 ∷ 7 ∷ []))) ∷ (1, (reply.Handle (1 ∷ 7 ∷ [])))
    ∷ (2, (reply.Handle (203 ∷ []))) ∷ [])) ≡ Wait 3
unfolding request_body string uint32 uint64 attributes
list_3 = refl

pub list_3_left : site_after_cancel (call.List (97 ∷ 98 ∷ []) 2)
    (with_slot (record fresh_site { directory = (47 ∷ 120 ∷ []) })
    2 (File (file_at 0 true true 0))) (facts 19 5 1 4 2) ((2, (request.Opendir (47 ∷ 120 ∷ 47 ∷ 97 ∷ 98 ∷ []))) ∷
    (3, (request.Readdir (203 ∷ []))) ∷ []) (known ((0, (reply.Handle (0 ∷ 7 ∷ []))) ∷ (1, (reply.Handle (1 ∷ 7 ∷ [])))
    ∷ (2, (reply.Handle (203 ∷ []))) ∷ [])) ≡ (with_slot (record fresh_site { directory = (47 ∷ 120 ∷ []) }) 2
    (File (file_at 0 true true 0)))
list_3_left = refl

pub list_4 : next (call.List [] 1) (with_slot (with_slot (record fresh_site { directory = (47 ∷ 120 ∷ []) }) 1
    (File (file_at 0 true true 18446744073709551613))) 2 (File (file_at 0 true true 0))) (facts 26 1 2 4 2)
    ((1, (request.Opendir (47 ∷ 120 ∷ 47 ∷ []))) ∷ []) (known ((0, (reply.Handle (0 ∷ 7 ∷ []))) ∷
    (1, (reply.Handle (225 ∷ 34 ∷ 52 ∷ []))) ∷ [])) ≡ Ask (request.Readdir (225 ∷ 34 ∷ 52 ∷ []))
unfolding request_body string uint32 uint64 attributes
list_4 = refl

pub list_4_left : site_after_cancel (call.List [] 1) (with_slot
    (with_slot (record fresh_site { directory = (47 ∷ 120 ∷ []) }) 1
    (File (file_at 0 true true 18446744073709551613))) 2 (File (file_at 0 true true 0))) (facts 26 1 2 4 2)
    ((1, (request.Opendir (47 ∷ 120 ∷ 47 ∷ []))) ∷ []) (known ((0, (reply.Handle (0 ∷ 7 ∷ []))) ∷
    (1, (reply.Handle (225 ∷ 34 ∷ 52 ∷ []))) ∷ [])) ≡ (with_slot
    (with_slot (record fresh_site { directory = (47 ∷ 120 ∷ []) }) 1 (File (file_at 0 true true 18446744073709551613)))
    2 (File (file_at 0 true true 0)))
list_4_left = refl

pub list_5 : next (call.List [] 1) (with_slot (record fresh_site { directory = (120 ∷ []) }) 1
    (File (file_at 0 true false 19))) (facts 40 3 1 6 4) ((1, (request.Opendir (120 ∷ 47 ∷ []))) ∷
    (2, (request.Readdir (6 ∷ 36 ∷ 26 ∷ []))) ∷ []) (known ((0, (reply.Handle (0 ∷ 7 ∷ []))) ∷
    (1, (reply.Handle (6 ∷ 36 ∷ 26 ∷ []))) ∷ (2, (reply.Names ((entry (151 ∷ [])) ∷ []))) ∷ []))
    ≡ Done outcome.GivenUp (with_slot (record fresh_site { directory = (120 ∷ []) }) 1 (File (file_at 0 true false 19)))
unfolding request_body string uint32 uint64 attributes
list_5 = refl

pub list_5_left : site_after_cancel (call.List [] 1) (with_slot (record fresh_site { directory = (120 ∷ []) }) 1
    (File (file_at 0 true false 19))) (facts 40 3 1 6 4) ((1, (request.Opendir (120 ∷ 47 ∷ []))) ∷
    (2, (request.Readdir (6 ∷ 36 ∷ 26 ∷ []))) ∷ []) (known ((0, (reply.Handle (0 ∷ 7 ∷ []))) ∷
    (1, (reply.Handle (6 ∷ 36 ∷ 26 ∷ []))) ∷ (2, (reply.Names ((entry (151 ∷ [])) ∷ []))) ∷ []))
    ≡ (with_slot (record fresh_site { directory = (120 ∷ []) }) 1 (File (file_at 0 true false 19)))
list_5_left = refl

pub list_6 : next (call.List (97 ∷ 98 ∷ []) 3) (with_slot (with_slot
    (with_slot fresh_site 0 (Buffered (file_at 0 true true 18446744073709551613)
    (record { len = 2; bytes = (222 ∷ 60 ∷ 217 ∷ 86 ∷ []); deferred = []; reading = None }))) 1
    (File (file_at 0 false true 3))) 2 (Buffered (file_at 0 false true 14)
    (record { len = 1; bytes = (154 ∷ 163 ∷ 61 ∷ 225 ∷ []); deferred = ((1, 1) ∷ []); reading = None })))
    (facts 51 2 4 7 1) ((2, (request.Opendir (97 ∷ 98 ∷ []))) ∷ (3, (request.Readdir (189 ∷ 102 ∷ 11 ∷ []))) ∷
    (4, (request.Readdir (189 ∷ 102 ∷ 11 ∷ []))) ∷ []) (known ((0, (reply.Handle (0 ∷ 7 ∷ []))) ∷ (1, (status 0)) ∷
    (2, (reply.Handle (189 ∷ 102 ∷ 11 ∷ []))) ∷ (3, (reply.Names ((entry (147 ∷ [])) ∷ (entry (94 ∷ [])) ∷ []))) ∷
    (4, (reply.Names ((entry (217 ∷ [])) ∷ []))) ∷ [])) ≡ Ask (request.Readdir (189 ∷ 102 ∷ 11 ∷ []))
unfolding request_body string uint32 uint64 attributes
list_6 = refl

pub list_6_left : site_after_cancel (call.List (97 ∷ 98 ∷ []) 3) (with_slot
    (with_slot (with_slot fresh_site 0 (Buffered (file_at 0 true true 18446744073709551613)
    (record { len = 2; bytes = (222 ∷ 60 ∷ 217 ∷ 86 ∷ []); deferred = []; reading = None }))) 1
    (File (file_at 0 false true 3))) 2 (Buffered (file_at 0 false true 14)
    (record { len = 1; bytes = (154 ∷ 163 ∷ 61 ∷ 225 ∷ []); deferred = ((1, 1) ∷ []); reading = None })))
    (facts 51 2 4 7 1) ((2, (request.Opendir (97 ∷ 98 ∷ []))) ∷ (3, (request.Readdir (189 ∷ 102 ∷ 11 ∷ []))) ∷
    (4, (request.Readdir (189 ∷ 102 ∷ 11 ∷ []))) ∷ []) (known ((0, (reply.Handle (0 ∷ 7 ∷ []))) ∷ (1, (status 0)) ∷
    (2, (reply.Handle (189 ∷ 102 ∷ 11 ∷ []))) ∷ (3, (reply.Names ((entry (147 ∷ [])) ∷ (entry (94 ∷ [])) ∷ []))) ∷
    (4, (reply.Names ((entry (217 ∷ [])) ∷ []))) ∷ [])) ≡ (with_slot
    (with_slot (with_slot fresh_site 0 (Buffered (file_at 0 true true 18446744073709551613)
    (record { len = 2; bytes = (222 ∷ 60 ∷ 217 ∷ 86 ∷ []); deferred = []; reading = None }))) 1
    (File (file_at 0 false true 3))) 2 (Buffered (file_at 0 false true 14)
    (record { len = 1; bytes = (154 ∷ 163 ∷ 61 ∷ 225 ∷ []); deferred = ((1, 1) ∷ []); reading = None })))
list_6_left = refl

pub list_7 : next (call.List (47 ∷ 97 ∷ []) 2) (with_slot (with_slot
    (with_slot (record fresh_site { directory = (120 ∷ 47 ∷ []) }) 0 (File (file_at 1 true true 0))) 1
    (Buffered (file_at 1 true false 0) (record { len = 1; bytes = (73 ∷ 56 ∷ []); deferred = []; reading = None }))) 2
    (File (file_at 1 false true 0))) (facts 55 4 3 5 2) ((3, (request.Opendir (47 ∷ 97 ∷ []))) ∷
    (4, (request.Readdir (180 ∷ 212 ∷ 175 ∷ []))) ∷ []) (known
    ((0, (status 0)) ∷ (1, (reply.Handle (1 ∷ 7 ∷ []))) ∷ (2, (reply.Handle (2 ∷ 7 ∷ []))) ∷
    (3, (reply.Handle (180 ∷ 212 ∷ 175 ∷ []))) ∷ (4, (reply.Names [])) ∷ []))
    ≡ Done (outcome.Names []) (with_slot (with_slot (with_slot (record fresh_site { directory = (120 ∷ 47 ∷ []) }) 0
    (File (file_at 1 true true 0))) 1 (Buffered (file_at 1 true false 0)
    (record { len = 1; bytes = (73 ∷ 56 ∷ []); deferred = []; reading = None }))) 2 (File (file_at 1 false true 0)))
unfolding request_body string uint32 uint64 attributes
list_7 = refl

pub list_7_left : site_after_cancel (call.List (47 ∷ 97 ∷ []) 2) (with_slot
    (with_slot (with_slot (record fresh_site { directory = (120 ∷ 47 ∷ []) }) 0 (File (file_at 1 true true 0))) 1
    (Buffered (file_at 1 true false 0) (record { len = 1; bytes = (73 ∷ 56 ∷ []); deferred = []; reading = None }))) 2
    (File (file_at 1 false true 0))) (facts 55 4 3 5 2) ((3, (request.Opendir (47 ∷ 97 ∷ []))) ∷
    (4, (request.Readdir (180 ∷ 212 ∷ 175 ∷ []))) ∷ []) (known
    ((0, (status 0)) ∷ (1, (reply.Handle (1 ∷ 7 ∷ []))) ∷ (2, (reply.Handle (2 ∷ 7 ∷ []))) ∷
    (3, (reply.Handle (180 ∷ 212 ∷ 175 ∷ []))) ∷ (4, (reply.Names [])) ∷ []))
    ≡ (with_slot (with_slot (with_slot (record fresh_site { directory = (120 ∷ 47 ∷ []) }) 0
    (File (file_at 1 true true 0))) 1 (Buffered (file_at 1 true false 0)
    (record { len = 1; bytes = (73 ∷ 56 ∷ []); deferred = []; reading = None }))) 2 (File (file_at 1 false true 0)))
list_7_left = refl

pub list_8 : next (call.List [] 3) (with_slot (with_slot (with_slot fresh_site 0 (File (file_at 0 false true 0))) 1
    (File (file_at 1 true true 17))) 2 (File (file_at 1 true true 0))) (facts 44 4 3 3 1)
    ((2, (request.Opendir [])) ∷ []) (known ((0, (reply.Handle (0 ∷ 7 ∷ []))) ∷ (1, (reply.Handle (1 ∷ 7 ∷ []))) ∷
    (2, (status 2)) ∷ [])) ≡ Done (outcome.Refused (error.SftpError 2 [] []))
    (with_slot (with_slot (with_slot fresh_site 0 (File (file_at 0 false true 0))) 1 (File (file_at 1 true true 17))) 2
    (File (file_at 1 true true 0)))
unfolding request_body string uint32 uint64 attributes
list_8 = refl

pub list_8_left : site_after_cancel (call.List [] 3) (with_slot (with_slot
    (with_slot fresh_site 0 (File (file_at 0 false true 0))) 1 (File (file_at 1 true true 17))) 2
    (File (file_at 1 true true 0))) (facts 44 4 3 3 1) ((2, (request.Opendir [])) ∷ [])
    (known ((0, (reply.Handle (0 ∷ 7 ∷ []))) ∷ (1, (reply.Handle (1 ∷ 7 ∷ []))) ∷ (2, (status 2)) ∷ []))
    ≡ (with_slot (with_slot (with_slot fresh_site 0 (File (file_at 0 false true 0))) 1 (File (file_at 1 true true 17)))
    2 (File (file_at 1 true true 0)))
list_8_left = refl

pub list_9 : next (call.List [] 3) (with_slot (with_slot (with_slot fresh_site 0
    (Buffered (file_at 1 true true 0) (record {
      len = 2;
      bytes = (243 ∷ 77 ∷ 31 ∷ []);
      deferred = ((3, 7) ∷ []);
      reading = None;
    }))) 1 (File (file_at 1 false true 0))) 2 (File (file_at 2 false true 0))) (facts 19 2 1 7 2)
    ((4, (request.Opendir [])) ∷ (6, (request.Readdir (254 ∷ 31 ∷ []))) ∷ (7, (request.Readdir (254 ∷ 31 ∷ []))) ∷ [])
    (known ((0, (status 0)) ∷ (1, (reply.Handle (1 ∷ 7 ∷ []))) ∷ (2, (reply.Handle (2 ∷ 7 ∷ []))) ∷
    (4, (reply.Handle (254 ∷ 31 ∷ []))) ∷ (6, (reply.Names ((entry (212 ∷ 120 ∷ [])) ∷ []))) ∷ [])) ≡ Wait 7
unfolding request_body string uint32 uint64 attributes
list_9 = refl

pub list_9_left : site_after_cancel (call.List [] 3) (with_slot (with_slot
    (with_slot fresh_site 0 (Buffered (file_at 1 true true 0) (record
    { len = 2; bytes = (243 ∷ 77 ∷ 31 ∷ []); deferred = ((3, 7) ∷ []); reading = None }))) 1
    (File (file_at 1 false true 0))) 2 (File (file_at 2 false true 0))) (facts 19 2 1 7 2)
    ((4, (request.Opendir [])) ∷ (6, (request.Readdir (254 ∷ 31 ∷ []))) ∷ (7, (request.Readdir (254 ∷ 31 ∷ []))) ∷ [])
    (known ((0, (status 0)) ∷ (1, (reply.Handle (1 ∷ 7 ∷ []))) ∷ (2, (reply.Handle (2 ∷ 7 ∷ []))) ∷
    (4, (reply.Handle (254 ∷ 31 ∷ []))) ∷ (6, (reply.Names ((entry (212 ∷ 120 ∷ [])) ∷ []))) ∷ []))
    ≡ (with_slot (with_slot (with_slot fresh_site 0 (Buffered (file_at 1 true true 0)
    (record { len = 2; bytes = (243 ∷ 77 ∷ 31 ∷ []); deferred = ((3, 7) ∷ []); reading = None }))) 1
    (File (file_at 1 false true 0))) 2 (File (file_at 2 false true 0)))
list_9_left = refl

pub list_10 : next (call.List (97 ∷ 98 ∷ []) 3) (with_slot (record fresh_site { directory = (47 ∷ 120 ∷ []) }) 1
    (File (file_at 1 false true 18446744073709551615))) (facts 20 1 2 3 4)
    ((2, (request.Opendir (47 ∷ 120 ∷ 47 ∷ 97 ∷ 98 ∷ []))) ∷ (3, (request.Readdir (2 ∷ 206 ∷ []))) ∷ [])
    (known ((0, (status 0)) ∷ (1, (reply.Handle (1 ∷ 7 ∷ []))) ∷ (2, (reply.Handle (2 ∷ 206 ∷ []))) ∷
    (3, (reply.Names ((entry (159 ∷ [])) ∷ []))) ∷ [])) ≡ Ask (request.Readdir (2 ∷ 206 ∷ []))
unfolding request_body string uint32 uint64 attributes
list_10 = refl

pub list_10_left : site_after_cancel (call.List (97 ∷ 98 ∷ []) 3)
    (with_slot (record fresh_site { directory = (47 ∷ 120 ∷ []) })
    1 (File (file_at 1 false true 18446744073709551615))) (facts 20 1 2 3 4)
    ((2, (request.Opendir (47 ∷ 120 ∷ 47 ∷ 97 ∷ 98 ∷ []))) ∷ (3, (request.Readdir (2 ∷ 206 ∷ []))) ∷ [])
    (known ((0, (status 0)) ∷ (1, (reply.Handle (1 ∷ 7 ∷ []))) ∷ (2, (reply.Handle (2 ∷ 206 ∷ []))) ∷
    (3, (reply.Names ((entry (159 ∷ [])) ∷ []))) ∷ [])) ≡ (with_slot (record fresh_site { directory = (47 ∷ 120 ∷ []) })
    1 (File (file_at 1 false true 18446744073709551615)))
list_10_left = refl
