-- States of plans drawn at random, each with the move or the site that an independent model gives.
use Rattle.std.specs.Prelude.{◌≡◌, true, false, [], ◌∷◌, Some, None, pos, negsuc, refl}
use Rattle.std.specs.declared.io.traits.SeekFrom.TheVariants.{Start, End, Current}
use Rattle.sftp_model.specs.declared.request.Request.TheVariants as request
use Rattle.sftp_model.specs.declared.reply.Reply.TheVariants as reply
use Rattle.sftp_model.specs.declared.outcome.Outcome.TheVariants as outcome
use Rattle.sftp_model.specs.declared.error.Error.TheVariants as error
use Rattle.sftp_model.specs.declared.error.IoKind.TheVariants as kind
use Rattle.sftp_model.specs.declared.slot.Move.TheVariants.{Ask, Wait, Done}
use Rattle.sftp_model.specs.declared.slot.Slot.TheVariants.{File, Buffered}
use Rattle.sftp_model.specs.Slots.{fresh_site, with_slot}
use Rattle.plan_model.specs.declared.call.Call.TheVariants as call
use Rattle.plan_model.specs.CallPlans.{site_after_cancel, next}
use Rattle.sftp_model.specs.Answers.{status}
use Rattle.plan_model.specs.PlanWords.{known, facts, file_at, attributes_of}

pub write_all_8 : next (call.WriteAll 0 (147 ∷ 247 ∷ 92 ∷ 76 ∷ 123 ∷ []))
    (with_slot (with_slot (with_slot (record fresh_site { directory = (47 ∷ 120 ∷ []) }) 0
    (File (file_at 0 false true 19))) 1 (File (file_at 0 true true 12))) 2
    (Buffered (file_at 0 true false 19) (record { len = 1; bytes = []; deferred = []; reading = None })))
    (facts 31 1 4 7 2) ((1, (request.Write (0 ∷ 7 ∷ []) 19 (147 ∷ 247 ∷ 92 ∷ 76 ∷ []))) ∷
    (2, (request.Write (0 ∷ 7 ∷ []) 23 (123 ∷ []))) ∷ []) (known
    ((0, (reply.Handle (0 ∷ 7 ∷ []))) ∷ (1, (status 0)) ∷ [])) ≡ Wait 2
write_all_8 = refl

pub write_all_8_left : site_after_cancel (call.WriteAll 0 (147 ∷ 247 ∷ 92 ∷ 76 ∷ 123 ∷ []))
    (with_slot (with_slot (with_slot (record fresh_site { directory = (47 ∷ 120 ∷ []) }) 0
    (File (file_at 0 false true 19))) 1 (File (file_at 0 true true 12))) 2
    (Buffered (file_at 0 true false 19) (record { len = 1; bytes = []; deferred = []; reading = None })))
    (facts 31 1 4 7 2) ((1, (request.Write (0 ∷ 7 ∷ []) 19 (147 ∷ 247 ∷ 92 ∷ 76 ∷ []))) ∷
    (2, (request.Write (0 ∷ 7 ∷ []) 23 (123 ∷ []))) ∷ []) (known
    ((0, (reply.Handle (0 ∷ 7 ∷ []))) ∷ (1, (status 0)) ∷ []))
    ≡ (with_slot (with_slot (with_slot (record fresh_site { directory = (47 ∷ 120 ∷ []) }) 0
    (File (file_at 0 false true 23))) 1 (File (file_at 0 true true 12))) 2
    (Buffered (file_at 0 true false 19) (record { len = 1; bytes = []; deferred = []; reading = None })))
write_all_8_left = refl

pub write_parts_1 : next (call.WriteParts 0 ((249 ∷ 181 ∷ 49 ∷ []) ∷ [] ∷ (153 ∷ 201 ∷ 102 ∷ []) ∷ []))
    (with_slot (with_slot fresh_site 0 (File (file_at 2 true true 18))) 2 (File (file_at 2 true true 0)))
    (facts 44 5 2 4 4) ((3, (request.Write (2 ∷ 7 ∷ []) 18 (249 ∷ 181 ∷ []))) ∷ [])
    (known ((0, (status 0)) ∷ (1, (reply.Handle (1 ∷ 7 ∷ []))) ∷ (2, (reply.Handle (2 ∷ 7 ∷ []))) ∷ [])) ≡ Wait 3
write_parts_1 = refl

pub write_parts_1_left : site_after_cancel (call.WriteParts 0
    ((249 ∷ 181 ∷ 49 ∷ []) ∷ [] ∷ (153 ∷ 201 ∷ 102 ∷ []) ∷ []))
    (with_slot (with_slot fresh_site 0 (File (file_at 2 true true 18))) 2 (File (file_at 2 true true 0)))
    (facts 44 5 2 4 4) ((3, (request.Write (2 ∷ 7 ∷ []) 18 (249 ∷ 181 ∷ []))) ∷ [])
    (known ((0, (status 0)) ∷ (1, (reply.Handle (1 ∷ 7 ∷ []))) ∷ (2, (reply.Handle (2 ∷ 7 ∷ []))) ∷ []))
    ≡ (with_slot (with_slot fresh_site 0 (File (file_at 2 true true 18))) 2 (File (file_at 2 true true 0)))
write_parts_1_left = refl

pub write_parts_2 : next (call.WriteParts 0 ((138 ∷ 63 ∷ []) ∷ (163 ∷ 172 ∷ []) ∷ []))
    (with_slot (with_slot (with_slot fresh_site 0 (File (file_at 2 false true 1))) 1
    (File (file_at 2 true false 18446744073709551612))) 2 (Buffered (file_at 1 true true 18446744073709551611)
    (record { len = 3; bytes = (170 ∷ 120 ∷ []); deferred = ((3, 3) ∷ []); reading = None }))) (facts 63 5 3 6 3) []
    (known ((0, (status 0)) ∷ (1, (reply.Handle (1 ∷ 7 ∷ []))) ∷ (2, (reply.Handle (2 ∷ 7 ∷ []))) ∷ (3, (status 0)) ∷
    [])) ≡ Ask (request.Write (2 ∷ 7 ∷ []) 1 (138 ∷ 63 ∷ 163 ∷ []))
write_parts_2 = refl

pub write_parts_3 : next (call.WriteParts 1 ((183 ∷ 74 ∷ 206 ∷ []) ∷ []))
    (with_slot (with_slot fresh_site 0 (File (file_at 0 true true 3))) 1 (File (file_at 1 true true 7)))
    (facts 39 1 4 6 2) ((2, (request.Write (1 ∷ 7 ∷ []) 7 (183 ∷ 74 ∷ 206 ∷ []))) ∷ [])
    (known ((0, (reply.Handle (0 ∷ 7 ∷ []))) ∷ (1, (reply.Handle (1 ∷ 7 ∷ []))) ∷ (2, (status 0)) ∷ []))
    ≡ Done outcome.Done (with_slot (with_slot fresh_site 0 (File (file_at 0 true true 3))) 1
    (File (file_at 1 true true 10)))
write_parts_3 = refl

pub write_parts_3_left : site_after_cancel (call.WriteParts 1 ((183 ∷ 74 ∷ 206 ∷ []) ∷ []))
    (with_slot (with_slot fresh_site 0 (File (file_at 0 true true 3))) 1 (File (file_at 1 true true 7)))
    (facts 39 1 4 6 2) ((2, (request.Write (1 ∷ 7 ∷ []) 7 (183 ∷ 74 ∷ 206 ∷ []))) ∷ [])
    (known ((0, (reply.Handle (0 ∷ 7 ∷ []))) ∷ (1, (reply.Handle (1 ∷ 7 ∷ []))) ∷ (2, (status 0)) ∷ []))
    ≡ (with_slot (with_slot fresh_site 0 (File (file_at 0 true true 3))) 1 (File (file_at 1 true true 7)))
write_parts_3_left = refl

pub write_parts_4 : next (call.WriteParts 0 ([] ∷ [])) (with_slot
    (with_slot (with_slot fresh_site 0 (File (file_at 1 true true 0))) 1
    (File (file_at 1 true true 18446744073709551614))) 2 (Buffered (file_at 1 true false 3)
    (record { len = 4; bytes = (157 ∷ []); deferred = []; reading = None }))) (facts 59 4 2 7 3) []
    (known ((0, (status 0)) ∷ (1, (reply.Handle (1 ∷ 7 ∷ []))) ∷ []))
    ≡ Done outcome.Done (with_slot (with_slot (with_slot fresh_site 0 (File (file_at 1 true true 0))) 1
    (File (file_at 1 true true 18446744073709551614))) 2 (Buffered (file_at 1 true false 3)
    (record { len = 4; bytes = (157 ∷ []); deferred = []; reading = None })))
write_parts_4 = refl

pub seek_1 : next (call.Seek 0 (Start 4)) (with_slot (with_slot
    (with_slot (record fresh_site { directory = (120 ∷ []) }) 0 (File (file_at 0 true true 0))) 1
    (Buffered (file_at 0 true false 15) (record { len = 3; bytes = (114 ∷ []); deferred = []; reading = None }))) 2
    (Buffered (file_at 0 true true 16) (record { len = 2; bytes = []; deferred = ((2, 4) ∷ []); reading = None })))
    (facts 34 4 1 4 3) [] (known ((0, (reply.Handle (0 ∷ 7 ∷ []))) ∷ (1, (reply.Handle (1 ∷ 7 ∷ []))) ∷ (2, (status 0))
    ∷ [])) ≡ Done (outcome.Count 4) (with_slot (with_slot (with_slot (record fresh_site { directory = (120 ∷ []) }) 0
    (File (file_at 0 true true 4))) 1 (Buffered (file_at 0 true false 15)
    (record { len = 3; bytes = (114 ∷ []); deferred = []; reading = None }))) 2
    (Buffered (file_at 0 true true 16) (record { len = 2; bytes = []; deferred = ((2, 4) ∷ []); reading = None })))
seek_1 = refl

pub seek_2 : next (call.Seek 2 (Start 11)) (with_slot (with_slot
    (with_slot (record fresh_site { directory = (47 ∷ 120 ∷ []) }) 0 (File (file_at 1 true true 0))) 1
    (Buffered (file_at 1 false true 10) (record {
      len = 4;
      bytes = [];
      deferred = ((2, 1) ∷ (3, 1) ∷ []);
      reading =
          None;
    }))) 2 (Buffered (file_at 1 true true 0) (record {
      len = 2;
      bytes = (7 ∷ 76 ∷ []);
      deferred = [];
      reading =
          None;
    }))) (facts 55 1 4 7 4) [] (known ((0, (status 0)) ∷ (1, (reply.Handle (1 ∷ 7 ∷ []))) ∷ (2, (status 0)) ∷
    (3, (status 0)) ∷ [])) ≡ Done outcome.NoFile (with_slot (with_slot
    (with_slot (record fresh_site { directory = (47 ∷ 120 ∷ []) }) 0 (File (file_at 1 true true 0))) 1
    (Buffered (file_at 1 false true 10) (record {
      len = 4;
      bytes = [];
      deferred = ((2, 1) ∷ (3, 1) ∷ []);
      reading =
          None;
    }))) 2 (Buffered (file_at 1 true true 0) (record {
      len = 2;
      bytes = (7 ∷ 76 ∷ []);
      deferred = [];
      reading =
          None;
    })))
seek_2 = refl

pub seek_3 : next (call.Seek 1 (Current (negsuc 9223372036854775807)))
    (with_slot (with_slot (with_slot (record fresh_site { directory = (47 ∷ 120 ∷ []) }) 0
    (File (file_at 0 true true 12))) 1 (File (file_at 0 true false 5))) 2
    (Buffered (file_at 1 true false 0) (record { len = 5; bytes = []; deferred = []; reading = None })))
    (facts 28 3 2 3 1) [] (known ((0, (reply.Handle (0 ∷ 7 ∷ []))) ∷ (1, (reply.Handle (1 ∷ 7 ∷ []))) ∷ []))
    ≡ Done (outcome.Refused (error.IOError kind.SeekUnderflow))
    (with_slot (with_slot (with_slot (record fresh_site { directory = (47 ∷ 120 ∷ []) }) 0
    (File (file_at 0 true true 12))) 1 (File (file_at 0 true false 5))) 2
    (Buffered (file_at 1 true false 0) (record { len = 5; bytes = []; deferred = []; reading = None })))
seek_3 = refl

pub seek_4 : next (call.Seek 1 (End (pos 0))) (with_slot (with_slot
    (with_slot fresh_site 0 (File (file_at 2 true true 11))) 1 (File (file_at 2 false true 0))) 2
    (Buffered (file_at 2 true false 16) (record { len = 1; bytes = []; deferred = []; reading = (Some 3) })))
    (facts 54 2 1 4 2) [] (known ((0, (status 0)) ∷ (1, (reply.Handle (1 ∷ 7 ∷ []))) ∷ (2, (reply.Handle (2 ∷ 7 ∷ [])))
    ∷ (3, (status 2)) ∷ [])) ≡ Done (outcome.Refused (error.IOError kind.SeekFromEnd))
    (with_slot (with_slot (with_slot fresh_site 0 (File (file_at 2 true true 11))) 1 (File (file_at 2 false true 0))) 2
    (Buffered (file_at 2 true false 16) (record { len = 1; bytes = []; deferred = []; reading = (Some 3) })))
seek_4 = refl

pub seek_5 : next (call.Seek 2 (Current (pos 6))) (with_slot (record fresh_site { directory = (120 ∷ 47 ∷ []) }) 2
    (File (file_at 0 false true 18446744073709551615))) (facts 60 5 4 5 3) []
    (known ((0, (reply.Handle (0 ∷ 7 ∷ []))) ∷ [])) ≡ Done (outcome.Refused (error.IOError kind.SeekOverflow))
    (with_slot (record fresh_site { directory = (120 ∷ 47 ∷ []) }) 2 (File (file_at 0 false true 18446744073709551615)))
seek_5 = refl

pub seek_6 : next (call.Seek 1 (Current (negsuc 1))) (with_slot
    (with_slot (record fresh_site { directory = (120 ∷ []) }) 1 (File (file_at 0 true true 0))) 2
    (File (file_at 0 false true 0))) (facts 59 4 4 4 4) [] (known
    ((0, (reply.Handle (0 ∷ 7 ∷ []))) ∷ (1, (reply.Handle (1 ∷ 7 ∷ []))) ∷ []))
    ≡ Done (outcome.Refused (error.IOError kind.SeekUnderflow))
    (with_slot (with_slot (record fresh_site { directory = (120 ∷ []) }) 1 (File (file_at 0 true true 0))) 2
    (File (file_at 0 false true 0)))
seek_6 = refl

pub seek_7 : next (call.Seek 2 (Start 5)) (with_slot (with_slot
    (with_slot (record fresh_site { directory = (120 ∷ 47 ∷ []) }) 0 (File (file_at 0 true false 6))) 1
    (File (file_at 0 true false 0))) 2 (File (file_at 0 true true 16))) (facts 16 3 2 5 4) []
    (known ((0, (reply.Handle (0 ∷ 7 ∷ []))) ∷ [])) ≡ Done (outcome.Count 5)
    (with_slot (with_slot (with_slot (record fresh_site { directory = (120 ∷ 47 ∷ []) }) 0
    (File (file_at 0 true false 6))) 1 (File (file_at 0 true false 0))) 2 (File (file_at 0 true true 5)))
seek_7 = refl

pub set_len_1 : next (call.SetLen 2 2) (with_slot (with_slot
    (with_slot fresh_site 0 (Buffered (file_at 1 true true 0) (record
    { len = 3; bytes = []; deferred = ((3, 7) ∷ []); reading = (Some 4) }))) 1
    (Buffered (file_at 2 false true 11) (record { len = 2; bytes = []; deferred = ((5, 1) ∷ []); reading = None }))) 2
    (File (file_at 1 true true 18446744073709551611))) (facts 49 5 3 7 3) []
    (known ((0, (status 0)) ∷ (1, (reply.Handle (1 ∷ 7 ∷ []))) ∷ (2, (reply.Handle (2 ∷ 7 ∷ []))) ∷ (3, (status 0)) ∷
    (4, (status 1)) ∷ (5, (status 4)) ∷ [])) ≡ Ask (request.Fsetstat (1 ∷ 7 ∷ []) (attributes_of (Some 2) None))
set_len_1 = refl

pub set_len_2 : next (call.SetLen 2 8) (with_slot (with_slot
    (with_slot (record fresh_site { directory = (120 ∷ 47 ∷ []) }) 0 (File (file_at 1 true false 0))) 1
    (File (file_at 1 true true 15))) 2 (File (file_at 1 false true 4))) (facts 35 5 3 7 1)
    ((2, (request.Fsetstat (1 ∷ 7 ∷ []) (attributes_of (Some 8) None))) ∷ [])
    (known ((0, (reply.Handle (0 ∷ 7 ∷ []))) ∷ (1, (reply.Handle (1 ∷ 7 ∷ []))) ∷ [])) ≡ Wait 2
set_len_2 = refl

pub set_len_2_left : site_after_cancel (call.SetLen 2 8) (with_slot (with_slot
    (with_slot (record fresh_site { directory = (120 ∷ 47 ∷ []) }) 0 (File (file_at 1 true false 0))) 1
    (File (file_at 1 true true 15))) 2 (File (file_at 1 false true 4))) (facts 35 5 3 7 1)
    ((2, (request.Fsetstat (1 ∷ 7 ∷ []) (attributes_of (Some 8) None))) ∷ [])
    (known ((0, (reply.Handle (0 ∷ 7 ∷ []))) ∷ (1, (reply.Handle (1 ∷ 7 ∷ []))) ∷ []))
    ≡ (with_slot (with_slot (with_slot (record fresh_site { directory = (120 ∷ 47 ∷ []) }) 0
    (File (file_at 1 true false 0))) 1 (File (file_at 1 true true 15))) 2 (File (file_at 1 false true 4)))
set_len_2_left = refl

pub set_len_3 : next (call.SetLen 0 0) (with_slot (with_slot
    (with_slot fresh_site 0 (Buffered (file_at 0 true true 18446744073709551612)
    (record { len = 4; bytes = []; deferred = ((1, 4) ∷ []); reading = (Some 2) }))) 1 (File (file_at 0 true true 12)))
    2 (Buffered (file_at 0 true false 18446744073709551614) (record
    { len = 4; bytes = (245 ∷ []); deferred = []; reading = None }))) (facts 23 5 4 5 4) []
    (known ((0, (reply.Handle (0 ∷ 7 ∷ []))) ∷ (2, (status 1)) ∷ []))
    ≡ Done outcome.NoFile (with_slot (with_slot (with_slot fresh_site 0
    (Buffered (file_at 0 true true 18446744073709551612) (record
    { len = 4; bytes = []; deferred = ((1, 4) ∷ []); reading = (Some 2) }))) 1 (File (file_at 0 true true 12))) 2
    (Buffered (file_at 0 true false 18446744073709551614) (record
    { len = 4; bytes = (245 ∷ []); deferred = []; reading = None })))
set_len_3 = refl

pub set_len_4 : next (call.SetLen 1 0) (with_slot (with_slot
    (with_slot fresh_site 0 (Buffered (file_at 0 false true 18446744073709551612)
    (record { len = 5; bytes = []; deferred = []; reading = None }))) 1 (File (file_at 0 true false 0))) 2
    (File (file_at 0 true true 18446744073709551613))) (facts 27 3 4 3 4) []
    (known ((0, (reply.Handle (0 ∷ 7 ∷ []))) ∷ [])) ≡ Done (outcome.Refused (error.IOError kind.NotWritable))
    (with_slot (with_slot (with_slot fresh_site 0 (Buffered (file_at 0 false true 18446744073709551612)
    (record { len = 5; bytes = []; deferred = []; reading = None }))) 1 (File (file_at 0 true false 0))) 2
    (File (file_at 0 true true 18446744073709551613)))
set_len_4 = refl

pub set_len_5 : next (call.SetLen 2 0) (with_slot (with_slot fresh_site 0
    (Buffered (file_at 0 false true 0) (record {
      len = 4;
      bytes = [];
      deferred = ((1, 1) ∷ (2, 2) ∷ []);
      reading =
          None;
    }))) 2 (File (file_at 0 true true 0))) (facts 31 3 1 3 1)
    ((3, (request.Fsetstat (0 ∷ 7 ∷ []) (attributes_of (Some 0) None))) ∷ [])
    (known ((0, (reply.Handle (0 ∷ 7 ∷ []))) ∷ (1, (status 4)) ∷ (3, (status 1)) ∷ []))
    ≡ Done (outcome.Refused (error.SftpError 1 [] [])) (with_slot
    (with_slot fresh_site 0 (Buffered (file_at 0 false true 0)
    (record { len = 4; bytes = []; deferred = ((1, 1) ∷ (2, 2) ∷ []); reading = None }))) 2
    (File (file_at 0 true true 0)))
set_len_5 = refl

pub set_len_5_left : site_after_cancel (call.SetLen 2 0) (with_slot (with_slot fresh_site 0
    (Buffered (file_at 0 false true 0) (record {
      len = 4;
      bytes = [];
      deferred = ((1, 1) ∷ (2, 2) ∷ []);
      reading =
          None;
    }))) 2 (File (file_at 0 true true 0))) (facts 31 3 1 3 1)
    ((3, (request.Fsetstat (0 ∷ 7 ∷ []) (attributes_of (Some 0) None))) ∷ [])
    (known ((0, (reply.Handle (0 ∷ 7 ∷ []))) ∷ (1, (status 4)) ∷ (3, (status 1)) ∷ []))
    ≡ (with_slot (with_slot fresh_site 0 (Buffered (file_at 0 false true 0)
    (record { len = 4; bytes = []; deferred = ((1, 1) ∷ (2, 2) ∷ []); reading = None }))) 2
    (File (file_at 0 true true 0)))
set_len_5_left = refl

pub set_perm_1 : next (call.SetPerm 0 420) (with_slot (with_slot
    (with_slot (record fresh_site { directory = (120 ∷ []) }) 0 (File (file_at 2 true true 8))) 1
    (Buffered (file_at 1 true true 18446744073709551614) (record
    { len = 1; bytes = []; deferred = ((3, 3) ∷ []); reading = None }))) 2
    (Buffered (file_at 2 true true 0) (record {
      len = 5;
      bytes = [];
      deferred = ((4, 2) ∷ (5, 3) ∷ []);
      reading =
          (Some 6);
    }))) (facts 7 3 3 5 4) [] (known ((0, (status 0)) ∷ (1, (reply.Handle (1 ∷ 7 ∷ []))) ∷
    (2, (reply.Handle (2 ∷ 7 ∷ []))) ∷ (5, (status 0)) ∷ (6, (status 2)) ∷ []))
    ≡ Ask (request.Fsetstat (2 ∷ 7 ∷ []) (attributes_of None (Some 420)))
set_perm_1 = refl

pub set_perm_2 : next (call.SetPerm 0 65535) (with_slot (with_slot
    (with_slot (record fresh_site { directory = (120 ∷ []) }) 0 (File (file_at 1 true true 8))) 1
    (File (file_at 2 true false 18))) 2 (Buffered (file_at 1 true true 2)
    (record { len = 5; bytes = []; deferred = ((3, 5) ∷ []); reading = None }))) (facts 11 1 3 5 2)
    ((4, (request.Fsetstat (1 ∷ 7 ∷ []) (attributes_of None (Some 4095)))) ∷ [])
    (known ((0, (status 0)) ∷ (1, (reply.Handle (1 ∷ 7 ∷ []))) ∷ (2, (reply.Handle (2 ∷ 7 ∷ []))) ∷ (3, (status 0)) ∷
    [])) ≡ Wait 4
set_perm_2 = refl

pub set_perm_2_left : site_after_cancel (call.SetPerm 0 65535) (with_slot
    (with_slot (with_slot (record fresh_site { directory = (120 ∷ []) }) 0 (File (file_at 1 true true 8))) 1
    (File (file_at 2 true false 18))) 2 (Buffered (file_at 1 true true 2)
    (record { len = 5; bytes = []; deferred = ((3, 5) ∷ []); reading = None }))) (facts 11 1 3 5 2)
    ((4, (request.Fsetstat (1 ∷ 7 ∷ []) (attributes_of None (Some 4095)))) ∷ [])
    (known ((0, (status 0)) ∷ (1, (reply.Handle (1 ∷ 7 ∷ []))) ∷ (2, (reply.Handle (2 ∷ 7 ∷ []))) ∷ (3, (status 0)) ∷
    [])) ≡ (with_slot (with_slot (with_slot (record fresh_site { directory = (120 ∷ []) }) 0
    (File (file_at 1 true true 8))) 1 (File (file_at 2 true false 18))) 2
    (Buffered (file_at 1 true true 2) (record { len = 5; bytes = []; deferred = ((3, 5) ∷ []); reading = None })))
set_perm_2_left = refl

pub set_perm_3 : next (call.SetPerm 0 33188) (with_slot fresh_site 2
    (Buffered (file_at 0 true true 16) (record {
      len = 1;
      bytes = (100 ∷ []);
      deferred = ((2, 6) ∷ []);
      reading =
          None;
    }))) (facts 60 3 3 6 3) [] (known ((0, (reply.Handle (0 ∷ 7 ∷ []))) ∷ (1, (reply.Handle (1 ∷ 7 ∷ []))) ∷
    (2, (status 1)) ∷ [])) ≡ Done outcome.NoFile (with_slot fresh_site 2
    (Buffered (file_at 0 true true 16) (record {
      len = 1;
      bytes = (100 ∷ []);
      deferred = ((2, 6) ∷ []);
      reading =
          None;
    })))
set_perm_3 = refl

pub set_perm_4 : next (call.SetPerm 2 65535) (with_slot (with_slot
    (with_slot (record fresh_site { directory = (120 ∷ 47 ∷ []) }) 0 (File (file_at 0 true true 0))) 1
    (File (file_at 0 false true 11))) 2 (File (file_at 0 false true 18446744073709551614))) (facts 33 2 3 3 1)
    ((1, (request.Fsetstat (0 ∷ 7 ∷ []) (attributes_of None (Some 4095)))) ∷ [])
    (known ((0, (reply.Handle (0 ∷ 7 ∷ []))) ∷ (1, (status 0)) ∷ []))
    ≡ Done outcome.Done (with_slot (with_slot (with_slot (record fresh_site { directory = (120 ∷ 47 ∷ []) }) 0
    (File (file_at 0 true true 0))) 1 (File (file_at 0 false true 11))) 2
    (File (file_at 0 false true 18446744073709551614)))
set_perm_4 = refl
