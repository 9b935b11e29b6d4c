-- States of plans drawn at random, each with the move or the site that an independent model gives.
use Rattle.std.specs.Prelude.{◌≡◌, true, false, [], ◌∷◌, Some, None, refl}
use Rattle.ssh_encoding.specs.Writing.{uint32, uint64, string}
use Rattle.sftp_model.specs.declared.request.Request.TheVariants as request
use Rattle.sftp_model.specs.declared.reply.Reply.TheVariants as reply
use Rattle.sftp_model.specs.declared.outcome.Outcome.TheVariants as outcome
use Rattle.sftp_model.specs.declared.error.Error.TheVariants as error
use Rattle.sftp_model.specs.declared.error.IoKind.TheVariants as kind
use Rattle.sftp_model.specs.declared.slot.Move.TheVariants.{Ask, Wait, Done}
use Rattle.sftp_model.specs.Frames.{request_body, attributes}
use Rattle.sftp_model.specs.declared.slot.Slot.TheVariants.{File, Buffered}
use Rattle.sftp_model.specs.Slots.{fresh_site, with_slot}
use Rattle.plan_model.specs.declared.call.Call.TheVariants as call
use Rattle.plan_model.specs.CallPlans.{site_after_cancel, next}
use Rattle.sftp_model.specs.Answers.{status}
use Rattle.sftp_model.specs.OpenOptions.{nothing_chosen}
use Rattle.plan_model.specs.FilePlans.{open_next}
use Rattle.plan_model.specs.PlanWords.{known, facts, file_at, attributes_of}

pub open_1 : open_next 0 (record { 0 = 15 }) (97 ∷ 98 ∷ []) (with_slot
    (record fresh_site { directory = (120 ∷ 47 ∷ []) }) 0 (File (file_at 2 true true 0))) (facts 57 4 2 3 4)
    ((3, (request.OpenFile (97 ∷ 98 ∷ []) (record { 0 = 15 }) (attributes_of None None))) ∷ [])
    (known ((0, (status 0)) ∷ (1, (reply.Handle (1 ∷ 7 ∷ []))) ∷ (2, (reply.Handle (2 ∷ 7 ∷ []))) ∷
    (3, (reply.Handle (11 ∷ 213 ∷ []))) ∷ [])) ≡ Done outcome.Opened
    (with_slot (record fresh_site { directory = (120 ∷ 47 ∷ []) }) 0 (File (file_at 3 true true 0)))
unfolding request_body string uint32 uint64 attributes
open_1 = refl

pub open_1_left : site_after_cancel (call.OpenFile 0 (record nothing_chosen
    { read = true; append = true; create = true }) (97 ∷ 98 ∷ []))
    (with_slot (record fresh_site { directory = (120 ∷ 47 ∷ []) }) 0 (File (file_at 2 true true 0))) (facts 57 4 2 3 4)
    ((3, (request.OpenFile (97 ∷ 98 ∷ []) (record { 0 = 15 }) (attributes_of None None))) ∷ [])
    (known ((0, (status 0)) ∷ (1, (reply.Handle (1 ∷ 7 ∷ []))) ∷ (2, (reply.Handle (2 ∷ 7 ∷ []))) ∷
    (3, (reply.Handle (11 ∷ 213 ∷ []))) ∷ [])) ≡ (with_slot (record fresh_site { directory = (120 ∷ 47 ∷ []) }) 0
    (File (file_at 2 true true 0)))
open_1_left = refl

pub open_2 : open_next 0 (record { 0 = 7 }) (47 ∷ []) (with_slot
    (with_slot fresh_site 0 (Buffered (file_at 0 false true 0)
    (record { len = 5; bytes = (187 ∷ []); deferred = []; reading = None }))) 1
    (Buffered (file_at 1 true true 0) (record { len = 2; bytes = []; deferred = ((2, 7) ∷ []); reading = None })))
    (facts 25 5 4 7 2) ((3, (request.OpenFile (47 ∷ []) (record { 0 = 7 }) (attributes_of None None))) ∷ [])
    (known ((0, (reply.Handle (0 ∷ 7 ∷ []))) ∷ (1, (reply.Handle (1 ∷ 7 ∷ []))) ∷ (2, (status 0)) ∷ [])) ≡ Wait 3
unfolding request_body string uint32 uint64 attributes
open_2 = refl

pub open_2_left : site_after_cancel (call.OpenFile 0 (record nothing_chosen { read = true; append = true }) (47 ∷ []))
    (with_slot (with_slot fresh_site 0 (Buffered (file_at 0 false true 0)
    (record { len = 5; bytes = (187 ∷ []); deferred = []; reading = None }))) 1
    (Buffered (file_at 1 true true 0) (record { len = 2; bytes = []; deferred = ((2, 7) ∷ []); reading = None })))
    (facts 25 5 4 7 2) ((3, (request.OpenFile (47 ∷ []) (record { 0 = 7 }) (attributes_of None None))) ∷ [])
    (known ((0, (reply.Handle (0 ∷ 7 ∷ []))) ∷ (1, (reply.Handle (1 ∷ 7 ∷ []))) ∷ (2, (status 0)) ∷ []))
    ≡ (with_slot (with_slot fresh_site 0 (Buffered (file_at 0 false true 0)
    (record { len = 5; bytes = (187 ∷ []); deferred = []; reading = None }))) 1
    (Buffered (file_at 1 true true 0) (record { len = 2; bytes = []; deferred = ((2, 7) ∷ []); reading = None })))
open_2_left = refl

pub open_3 : open_next 0 (record { 0 = 46 }) (47 ∷ 97 ∷ []) (with_slot
    (with_slot (with_slot fresh_site 0 (Buffered (file_at 0 true true 13)
    (record { len = 5; bytes = (66 ∷ 4 ∷ []); deferred = ((2, 4) ∷ []); reading = None }))) 1
    (Buffered (file_at 0 true true 18446744073709551614) (record
    { len = 3; bytes = []; deferred = ((3, 4) ∷ []); reading = (Some 4) }))) 2 (File (file_at 0 false true 3)))
    (facts 37 2 4 4 1) [] (known ((0, (reply.Handle (0 ∷ 7 ∷ []))) ∷ (1, (reply.Handle (1 ∷ 7 ∷ []))) ∷ (3, (status 4))
    ∷ (4, (reply.Content (80 ∷ 102 ∷ 167 ∷ 69 ∷ []))) ∷ [])) ≡ Ask
    (request.OpenFile (47 ∷ 97 ∷ []) (record { 0 = 46 }) (attributes_of None None))
unfolding request_body string uint32 uint64 attributes
open_3 = refl

pub open_4 : open_next 2 (record { 0 = 0 }) (97 ∷ []) (with_slot
    (with_slot (record fresh_site { directory = (47 ∷ 120 ∷ []) }) 1
    (Buffered (file_at 0 false true 0) (record {
      len = 1;
      bytes = (84 ∷ 20 ∷ 46 ∷ 130 ∷ []);
      deferred = ((2, 5) ∷ []);
      reading = None;
    }))) 2 (File (file_at 0 false true 0))) (facts 34 5 2 5 3)
    ((3, (request.OpenFile (97 ∷ []) (record { 0 = 0 }) (attributes_of None None))) ∷ [])
    (known ((0, (reply.Handle (0 ∷ 7 ∷ []))) ∷ (1, (reply.Handle (1 ∷ 7 ∷ []))) ∷ (2, (status 1)) ∷ (3, (status 4)) ∷
    [])) ≡ Done (outcome.Refused (error.SftpError 4 [] [])) (with_slot
    (with_slot (record fresh_site { directory = (47 ∷ 120 ∷ []) }) 1
    (Buffered (file_at 0 false true 0) (record {
      len = 1;
      bytes = (84 ∷ 20 ∷ 46 ∷ 130 ∷ []);
      deferred = ((2, 5) ∷ []);
      reading = None;
    }))) 2 (File (file_at 0 false true 0)))
unfolding request_body string uint32 uint64 attributes
open_4 = refl

pub open_4_left : site_after_cancel (call.OpenFile 2 nothing_chosen (97 ∷ []))
    (with_slot (with_slot (record fresh_site { directory = (47 ∷ 120 ∷ []) }) 1
    (Buffered (file_at 0 false true 0) (record {
      len = 1;
      bytes = (84 ∷ 20 ∷ 46 ∷ 130 ∷ []);
      deferred = ((2, 5) ∷ []);
      reading = None;
    }))) 2 (File (file_at 0 false true 0))) (facts 34 5 2 5 3)
    ((3, (request.OpenFile (97 ∷ []) (record { 0 = 0 }) (attributes_of None None))) ∷ [])
    (known ((0, (reply.Handle (0 ∷ 7 ∷ []))) ∷ (1, (reply.Handle (1 ∷ 7 ∷ []))) ∷ (2, (status 1)) ∷ (3, (status 4)) ∷
    [])) ≡ (with_slot (with_slot (record fresh_site { directory = (47 ∷ 120 ∷ []) }) 1
    (Buffered (file_at 0 false true 0) (record {
      len = 1;
      bytes = (84 ∷ 20 ∷ 46 ∷ 130 ∷ []);
      deferred = ((2, 5) ∷ []);
      reading = None;
    }))) 2 (File (file_at 0 false true 0)))
open_4_left = refl

pub open_5 : open_next 0 (record { 0 = 47 }) (97 ∷ []) (with_slot
    (with_slot (with_slot (record fresh_site { directory = (120 ∷ []) }) 0
    (File (file_at 2 true false 18446744073709551614))) 1 (File (file_at 2 true true 0))) 2
    (Buffered (file_at 2 true true 11) (record { len = 5; bytes = []; deferred = []; reading = (Some 3) })))
    (facts 45 1 1 4 3) [] (known ((0, (status 0)) ∷ (1, (reply.Handle (1 ∷ 7 ∷ []))) ∷ (2, (reply.Handle (2 ∷ 7 ∷ [])))
    ∷ [])) ≡ Ask (request.OpenFile (97 ∷ []) (record { 0 = 47 }) (attributes_of None None))
unfolding request_body string uint32 uint64 attributes
open_5 = refl

pub open_6 : open_next 0 (record { 0 = 14 }) (97 ∷ []) (with_slot
    (with_slot (with_slot (record fresh_site { directory = (120 ∷ 47 ∷ []) }) 0
    (Buffered (file_at 0 true true 18446744073709551615) (record
    { len = 5; bytes = []; deferred = []; reading = (Some 2) }))) 1
    (Buffered (file_at 0 true true 1) (record {
      len = 1;
      bytes = (75 ∷ 65 ∷ []);
      deferred = ((3, 4) ∷ []);
      reading =
          None;
    }))) 2 (Buffered (file_at 0 true true 18) (record {
      len = 2;
      bytes = (110 ∷ 201 ∷ 250 ∷ []);
      deferred = [];
      reading = None;
    }))) (facts 32 1 1 4 3) [] (known ((0, (reply.Handle (0 ∷ 7 ∷ []))) ∷
    (1, (reply.Handle (1 ∷ 7 ∷ []))) ∷ (2, (reply.Content (225 ∷ 85 ∷ 193 ∷ 247 ∷ []))) ∷ (3, (status 0)) ∷ []))
    ≡ Ask (request.OpenFile (97 ∷ []) (record { 0 = 14 }) (attributes_of None None))
unfolding request_body string uint32 uint64 attributes
open_6 = refl

pub read_1 : next (call.Read 2 4) (with_slot (with_slot (with_slot fresh_site 0
    (Buffered (file_at 0 true true 12) (record { len = 4; bytes = []; deferred = []; reading = (Some 2) }))) 1
    (File (file_at 1 false true 11))) 2 (File (file_at 0 true true 19))) (facts 63 2 1 6 4) []
    (known ((0, (reply.Handle (0 ∷ 7 ∷ []))) ∷ (1, (reply.Handle (1 ∷ 7 ∷ []))) ∷ []))
    ≡ Ask (request.Read (0 ∷ 7 ∷ []) 19 2)
read_1 = refl

pub read_2 : next (call.Read 3 0) (with_slot (with_slot (record fresh_site { directory = (47 ∷ 120 ∷ []) }) 1
    (Buffered (file_at 0 true true 0) (record {
      len = 4;
      bytes = (195 ∷ 47 ∷ 63 ∷ 36 ∷ []);
      deferred = ((2, 6) ∷ []);
      reading = None;
    }))) 2 (Buffered (file_at 1 true true 18446744073709551615)
    (record { len = 3; bytes = (173 ∷ []); deferred = []; reading = None }))) (facts 7 1 4 6 3) []
    (known ((0, (reply.Handle (0 ∷ 7 ∷ []))) ∷ (1, (reply.Handle (1 ∷ 7 ∷ []))) ∷ []))
    ≡ Done outcome.NoFile (with_slot (with_slot (record fresh_site { directory = (47 ∷ 120 ∷ []) }) 1
    (Buffered (file_at 0 true true 0) (record {
      len = 4;
      bytes = (195 ∷ 47 ∷ 63 ∷ 36 ∷ []);
      deferred = ((2, 6) ∷ []);
      reading = None;
    }))) 2 (Buffered (file_at 1 true true 18446744073709551615)
    (record { len = 3; bytes = (173 ∷ []); deferred = []; reading = None })))
read_2 = refl

pub read_3 : next (call.Read 0 0) (with_slot (with_slot (with_slot (record fresh_site { directory = (120 ∷ []) }) 0
    (File (file_at 0 false true 18446744073709551614))) 1 (Buffered (file_at 0 true false 11)
    (record { len = 1; bytes = []; deferred = []; reading = None }))) 2 (File (file_at 0 true true 9)))
    (facts 60 4 2 7 1) [] (known ((0, (reply.Handle (0 ∷ 7 ∷ []))) ∷ []))
    ≡ Done outcome.End (with_slot (with_slot (with_slot (record fresh_site { directory = (120 ∷ []) }) 0
    (File (file_at 0 false true 18446744073709551614))) 1 (Buffered (file_at 0 true false 11)
    (record { len = 1; bytes = []; deferred = []; reading = None }))) 2 (File (file_at 0 true true 9)))
read_3 = refl

pub read_4 : next (call.Read 2 6) (with_slot (with_slot fresh_site 0
    (Buffered (file_at 0 true false 0) (record { len = 3; bytes = (108 ∷ 134 ∷ []); deferred = []; reading = None }))) 2
    (File (file_at 0 true true 0))) (facts 37 2 1 4 4) ((1, (request.Read (0 ∷ 7 ∷ []) 0 2)) ∷ [])
    (known ((0, (reply.Handle (0 ∷ 7 ∷ []))) ∷ [])) ≡ Wait 1
read_4 = refl

pub read_4_left : site_after_cancel (call.Read 2 6) (with_slot (with_slot fresh_site 0
    (Buffered (file_at 0 true false 0) (record { len = 3; bytes = (108 ∷ 134 ∷ []); deferred = []; reading = None }))) 2
    (File (file_at 0 true true 0))) (facts 37 2 1 4 4) ((1, (request.Read (0 ∷ 7 ∷ []) 0 2)) ∷ [])
    (known ((0, (reply.Handle (0 ∷ 7 ∷ []))) ∷ [])) ≡ (with_slot
    (with_slot fresh_site 0 (Buffered (file_at 0 true false 0)
    (record { len = 3; bytes = (108 ∷ 134 ∷ []); deferred = []; reading = None }))) 2 (File (file_at 0 true true 0)))
read_4_left = refl

pub read_5 : next (call.Read 0 7) (with_slot (with_slot fresh_site 0 (File (file_at 0 true true 13))) 2
    (File (file_at 0 false true 18446744073709551615))) (facts 50 5 1 6 1) ((1, (request.Read (0 ∷ 7 ∷ []) 13 5)) ∷ [])
    (known ((0, (reply.Handle (0 ∷ 7 ∷ []))) ∷ (1, (reply.Content (81 ∷ 82 ∷ 169 ∷ []))) ∷ []))
    ≡ Done (outcome.Bytes (81 ∷ 82 ∷ 169 ∷ [])) (with_slot (with_slot fresh_site 0 (File (file_at 0 true true 16))) 2
    (File (file_at 0 false true 18446744073709551615)))
read_5 = refl

pub read_5_left : site_after_cancel (call.Read 0 7) (with_slot (with_slot fresh_site 0 (File (file_at 0 true true 13)))
    2
    (File (file_at 0 false true 18446744073709551615))) (facts 50 5 1 6 1) ((1, (request.Read (0 ∷ 7 ∷ []) 13 5)) ∷ [])
    (known ((0, (reply.Handle (0 ∷ 7 ∷ []))) ∷ (1, (reply.Content (81 ∷ 82 ∷ 169 ∷ []))) ∷ []))
    ≡ (with_slot (with_slot fresh_site 0 (File (file_at 0 true true 13))) 2
    (File (file_at 0 false true 18446744073709551615)))
read_5_left = refl

pub read_6 : next (call.Read 0 5) (with_slot (with_slot (with_slot (record fresh_site { directory = (120 ∷ 47 ∷ []) }) 0
    (File (file_at 1 false true 18446744073709551611))) 1 (Buffered (file_at 1 true true 4)
    (record { len = 2; bytes = []; deferred = ((2, 2) ∷ []); reading = None }))) 2 (File (file_at 1 false true 3)))
    (facts 60 3 2 3 3) [] (known ((0, (status 0)) ∷ (1, (reply.Handle (1 ∷ 7 ∷ []))) ∷ (2, (status 0)) ∷ []))
    ≡ Done (outcome.Refused (error.IOError kind.NotReadable)) (with_slot
    (with_slot (with_slot (record fresh_site { directory = (120 ∷ 47 ∷ []) }) 0
    (File (file_at 1 false true 18446744073709551611))) 1 (Buffered (file_at 1 true true 4)
    (record { len = 2; bytes = []; deferred = ((2, 2) ∷ []); reading = None }))) 2 (File (file_at 1 false true 3)))
read_6 = refl

pub read_7 : next (call.Read 2 2) (with_slot (record fresh_site { directory = (47 ∷ 120 ∷ []) }) 2
    (File (file_at 1 true true 18446744073709551615))) (facts 45 2 4 6 1) []
    (known ((0, (status 0)) ∷ (1, (reply.Handle (1 ∷ 7 ∷ []))) ∷ []))
    ≡ Done (outcome.Refused (error.IOError kind.OffsetOverflow))
    (with_slot (record fresh_site { directory = (47 ∷ 120 ∷ []) }) 2 (File (file_at 1 true true 18446744073709551615)))
read_7 = refl

pub read_8 : next (call.Read 0 6) (with_slot (with_slot (record fresh_site { directory = (120 ∷ []) }) 0
    (File (file_at 0 true true 0))) 1 (File (file_at 0 true false 18446744073709551612))) (facts 47 4 3 3 1)
    ((2, (request.Read (0 ∷ 7 ∷ []) 0 4)) ∷ []) (known ((0, (reply.Handle (0 ∷ 7 ∷ []))) ∷
    (1, (reply.Handle (1 ∷ 7 ∷ []))) ∷ (2, (status 1)) ∷ [])) ≡ Done outcome.End
    (with_slot (with_slot (record fresh_site { directory = (120 ∷ []) }) 0 (File (file_at 0 true true 0))) 1
    (File (file_at 0 true false 18446744073709551612)))
read_8 = refl

pub read_8_left : site_after_cancel (call.Read 0 6) (with_slot
    (with_slot (record fresh_site { directory = (120 ∷ []) }) 0
    (File (file_at 0 true true 0))) 1 (File (file_at 0 true false 18446744073709551612))) (facts 47 4 3 3 1)
    ((2, (request.Read (0 ∷ 7 ∷ []) 0 4)) ∷ []) (known ((0, (reply.Handle (0 ∷ 7 ∷ []))) ∷
    (1, (reply.Handle (1 ∷ 7 ∷ []))) ∷ (2, (status 1)) ∷ [])) ≡
    (with_slot (with_slot (record fresh_site { directory = (120 ∷ []) }) 0 (File (file_at 0 true true 0))) 1
    (File (file_at 0 true false 18446744073709551612)))
read_8_left = refl

pub read_all_1 : next (call.ReadAll 2 7) (with_slot (with_slot (with_slot fresh_site 0 (File (file_at 0 false true 6)))
    1 (File (file_at 0 false true 0))) 2 (File (file_at 0 true true 19))) (facts 47 5 2 5 1) []
    (known ((0, (reply.Handle (0 ∷ 7 ∷ []))) ∷ [])) ≡ Ask (request.Read (0 ∷ 7 ∷ []) 19 5)
read_all_1 = refl

pub read_all_2 : next (call.ReadAll 1 1) (with_slot (with_slot
    (with_slot fresh_site 0 (Buffered (file_at 0 true false 13)
    (record { len = 1; bytes = []; deferred = []; reading = (Some 1) }))) 1 (File (file_at 0 true true 4))) 2
    (File (file_at 0 false true 0))) (facts 19 1 2 4 2) ((2, (request.Read (0 ∷ 7 ∷ []) 4 1)) ∷ [])
    (known ((0, (reply.Handle (0 ∷ 7 ∷ []))) ∷ (1, (status 2)) ∷ [])) ≡ Wait 2
read_all_2 = refl

pub read_all_2_left : site_after_cancel (call.ReadAll 1 1) (with_slot
    (with_slot (with_slot fresh_site 0 (Buffered (file_at 0 true false 13)
    (record { len = 1; bytes = []; deferred = []; reading = (Some 1) }))) 1 (File (file_at 0 true true 4))) 2
    (File (file_at 0 false true 0))) (facts 19 1 2 4 2) ((2, (request.Read (0 ∷ 7 ∷ []) 4 1)) ∷ [])
    (known ((0, (reply.Handle (0 ∷ 7 ∷ []))) ∷ (1, (status 2)) ∷ []))
    ≡ (with_slot (with_slot (with_slot fresh_site 0 (Buffered (file_at 0 true false 13)
    (record { len = 1; bytes = []; deferred = []; reading = (Some 1) }))) 1 (File (file_at 0 true true 4))) 2
    (File (file_at 0 false true 0)))
read_all_2_left = refl

pub read_all_3 : next (call.ReadAll 2 0) (with_slot (record fresh_site { directory = (120 ∷ []) }) 2
    (File (file_at 0 true false 4))) (facts 23 2 2 3 3) [] (known ((0, (reply.Handle (0 ∷ 7 ∷ []))) ∷ []))
    ≡ Done (outcome.Bytes []) (with_slot (record fresh_site { directory = (120 ∷ []) }) 2
    (File (file_at 0 true false 4)))
read_all_3 = refl

pub read_all_4 : next (call.ReadAll 2 6) (with_slot (with_slot (with_slot fresh_site 0 (File (file_at 0 true true 11)))
    1 (File (file_at 1 false true 7))) 2 (Buffered (file_at 0 true true 18446744073709551612)
    (record { len = 1; bytes = []; deferred = ((2, 4) ∷ []); reading = None }))) (facts 48 3 3 4 1) []
    (known ((0, (reply.Handle (0 ∷ 7 ∷ []))) ∷ (1, (reply.Handle (1 ∷ 7 ∷ []))) ∷ (2, (status 1)) ∷ []))
    ≡ Done outcome.NoFile (with_slot (with_slot (with_slot fresh_site 0 (File (file_at 0 true true 11))) 1
    (File (file_at 1 false true 7))) 2 (Buffered (file_at 0 true true 18446744073709551612)
    (record { len = 1; bytes = []; deferred = ((2, 4) ∷ []); reading = None })))
read_all_4 = refl

pub read_all_5 : next (call.ReadAll 2 6) (with_slot (with_slot
    (with_slot (record fresh_site { directory = (120 ∷ 47 ∷ []) }) 0
    (Buffered (file_at 1 true true 18446744073709551612) (record
    { len = 2; bytes = []; deferred = []; reading = None }))) 1 (File (file_at 1 true true 0))) 2
    (File (file_at 1 true false 0))) (facts 59 2 1 6 3) ((2, (request.Read (1 ∷ 7 ∷ []) 0 2)) ∷
    (3, (request.Read (1 ∷ 7 ∷ []) 2 2)) ∷ []) (known ((0, (status 0)) ∷ (1, (reply.Handle (1 ∷ 7 ∷ []))) ∷
    (2, (reply.Content (33 ∷ 132 ∷ []))) ∷ (3, (reply.Content (47 ∷ []))) ∷ [])) ≡ Ask (request.Read (1 ∷ 7 ∷ []) 3 2)
read_all_5 = refl

pub read_all_5_left : site_after_cancel (call.ReadAll 2 6) (with_slot
    (with_slot (with_slot (record fresh_site { directory = (120 ∷ 47 ∷ []) }) 0
    (Buffered (file_at 1 true true 18446744073709551612) (record
    { len = 2; bytes = []; deferred = []; reading = None }))) 1 (File (file_at 1 true true 0))) 2
    (File (file_at 1 true false 0))) (facts 59 2 1 6 3) ((2, (request.Read (1 ∷ 7 ∷ []) 0 2)) ∷
    (3, (request.Read (1 ∷ 7 ∷ []) 2 2)) ∷ []) (known ((0, (status 0)) ∷ (1, (reply.Handle (1 ∷ 7 ∷ []))) ∷
    (2, (reply.Content (33 ∷ 132 ∷ []))) ∷ (3, (reply.Content (47 ∷ []))) ∷ []))
    ≡ (with_slot (with_slot (with_slot (record fresh_site { directory = (120 ∷ 47 ∷ []) }) 0
    (Buffered (file_at 1 true true 18446744073709551612) (record
    { len = 2; bytes = []; deferred = []; reading = None }))) 1 (File (file_at 1 true true 0))) 2
    (File (file_at 1 true false 2)))
read_all_5_left = refl

pub read_all_6 : next (call.ReadAll 0 5) (with_slot (with_slot (with_slot fresh_site 0 (File (file_at 0 false true 0)))
    1 (File (file_at 0 true true 5))) 2 (Buffered (file_at 0 true false 0)
    (record { len = 1; bytes = []; deferred = []; reading = (Some 1) }))) (facts 62 5 4 3 3) []
    (known ((0, (reply.Handle (0 ∷ 7 ∷ []))) ∷ [])) ≡ Done (outcome.Refused (error.IOError kind.NotReadable))
    (with_slot (with_slot (with_slot fresh_site 0 (File (file_at 0 false true 0))) 1 (File (file_at 0 true true 5))) 2
    (Buffered (file_at 0 true false 0) (record { len = 1; bytes = []; deferred = []; reading = (Some 1) })))
read_all_6 = refl

pub read_all_7 : next (call.ReadAll 0 3) (with_slot (with_slot (record fresh_site { directory = (47 ∷ 120 ∷ []) }) 0
    (File (file_at 0 true true 17))) 2 (File (file_at 1 false true 0))) (facts 55 3 2 5 1)
    ((2, (request.Read (0 ∷ 7 ∷ []) 17 3)) ∷ []) (known ((0, (reply.Handle (0 ∷ 7 ∷ []))) ∷
    (1, (reply.Handle (1 ∷ 7 ∷ []))) ∷ (2, (reply.Content (47 ∷ 219 ∷ 124 ∷ []))) ∷ []))
    ≡ Done (outcome.Bytes (47 ∷ 219 ∷ 124 ∷ [])) (with_slot (with_slot
    (record fresh_site { directory = (47 ∷ 120 ∷ []) }) 0 (File (file_at 0 true true 20))) 2
    (File (file_at 1 false true 0)))
read_all_7 = refl

pub read_all_7_left : site_after_cancel (call.ReadAll 0 3) (with_slot
    (with_slot (record fresh_site { directory = (47 ∷ 120 ∷ []) }) 0 (File (file_at 0 true true 17))) 2
    (File (file_at 1 false true 0))) (facts 55 3 2 5 1) ((2, (request.Read (0 ∷ 7 ∷ []) 17 3)) ∷ [])
    (known ((0, (reply.Handle (0 ∷ 7 ∷ []))) ∷ (1, (reply.Handle (1 ∷ 7 ∷ []))) ∷
    (2, (reply.Content (47 ∷ 219 ∷ 124 ∷ []))) ∷ [])) ≡ (with_slot
    (with_slot (record fresh_site { directory = (47 ∷ 120 ∷ []) }) 0 (File (file_at 0 true true 17))) 2
    (File (file_at 1 false true 0)))
read_all_7_left = refl

pub read_all_8 : next (call.ReadAll 0 8) (with_slot (with_slot (with_slot fresh_site 0 (File (file_at 1 true true 0))) 1
    (File (file_at 1 false true 0))) 2 (Buffered (file_at 1 true false 19)
    (record { len = 2; bytes = (173 ∷ 30 ∷ 165 ∷ 232 ∷ []); deferred = []; reading = None }))) (facts 42 2 4 6 4)
    ((2, (request.Read (1 ∷ 7 ∷ []) 0 2)) ∷ []) (known ((0, (status 0)) ∷ (1, (reply.Handle (1 ∷ 7 ∷ []))) ∷
    (2, (status 1)) ∷ [])) ≡ Done (outcome.Refused (error.IOError kind.UnexpectedEof))
    (with_slot (with_slot (with_slot fresh_site 0 (File (file_at 1 true true 0))) 1 (File (file_at 1 false true 0))) 2
    (Buffered (file_at 1 true false 19) (record {
      len = 2;
      bytes = (173 ∷ 30 ∷ 165 ∷ 232 ∷ []);
      deferred = [];
      reading =
          None;
    })))
read_all_8 = refl
