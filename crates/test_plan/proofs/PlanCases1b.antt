-- States of plans drawn at random, each with the move or the site that an independent model gives.
use Rattle.std.specs.Prelude.{◌≡◌, true, false, [], ◌∷◌, None, refl}
use Rattle.sftp_model.specs.declared.request.Request.TheVariants as request
use Rattle.sftp_model.specs.declared.reply.Reply.TheVariants as reply
use Rattle.sftp_model.specs.declared.outcome.Outcome.TheVariants as outcome
use Rattle.sftp_model.specs.declared.error.Error.TheVariants as error
use Rattle.sftp_model.specs.declared.error.IoKind.TheVariants as kind
use Rattle.sftp_model.specs.declared.slot.Move.TheVariants.{Ask, Wait, Done}
use Rattle.sftp_model.specs.declared.slot.Slot.TheVariants.{File, Buffered}
use Rattle.sftp_model.specs.Slots.{fresh_site, with_slot}
use Rattle.plan_model.specs.declared.call.Call.TheVariants as call
use Rattle.plan_model.specs.CallPlans.{site_after_cancel, next}
use Rattle.sftp_model.specs.Answers.{status}
use Rattle.plan_model.specs.PlanWords.{known, facts, file_at}

pub read_all_8_left : site_after_cancel (call.ReadAll 0 8) (with_slot
    (with_slot (with_slot fresh_site 0 (File (file_at 1 true true 0))) 1 (File (file_at 1 false true 0))) 2
    (Buffered (file_at 1 true false 19) (record {
      len = 2;
      bytes = (173 ∷ 30 ∷ 165 ∷ 232 ∷ []);
      deferred = [];
      reading =
          None;
    }))) (facts 42 2 4 6 4) ((2, (request.Read (1 ∷ 7 ∷ []) 0 2)) ∷ [])
    (known ((0, (status 0)) ∷ (1, (reply.Handle (1 ∷ 7 ∷ []))) ∷ (2, (status 1)) ∷ []))
    ≡ (with_slot (with_slot (with_slot fresh_site 0 (File (file_at 1 true true 0))) 1 (File (file_at 1 false true 0))) 2
    (Buffered (file_at 1 true false 19) (record {
      len = 2;
      bytes = (173 ∷ 30 ∷ 165 ∷ 232 ∷ []);
      deferred = [];
      reading =
          None;
    })))
read_all_8_left = refl

pub read_all_9 : next (call.ReadAll 1 8) (with_slot (with_slot (record fresh_site { directory = (47 ∷ 120 ∷ []) }) 1
    (File (file_at 1 true true 0))) 2 (File (file_at 1 false true 0))) (facts 63 5 3 5 2)
    ((2, (request.Read (1 ∷ 7 ∷ []) 0 5)) ∷ []) (known ((0, (status 0)) ∷ (1, (reply.Handle (1 ∷ 7 ∷ []))) ∷
    (2, (reply.Content (94 ∷ 155 ∷ 100 ∷ 45 ∷ 155 ∷ []))) ∷ [])) ≡ Ask (request.Read (1 ∷ 7 ∷ []) 5 3)
read_all_9 = refl

pub read_all_9_left : site_after_cancel (call.ReadAll 1 8) (with_slot
    (with_slot (record fresh_site { directory = (47 ∷ 120 ∷ []) }) 1 (File (file_at 1 true true 0))) 2
    (File (file_at 1 false true 0))) (facts 63 5 3 5 2) ((2, (request.Read (1 ∷ 7 ∷ []) 0 5)) ∷ [])
    (known ((0, (status 0)) ∷ (1, (reply.Handle (1 ∷ 7 ∷ []))) ∷ (2, (reply.Content (94 ∷ 155 ∷ 100 ∷ 45 ∷ 155 ∷ []))) ∷
    [])) ≡ (with_slot (with_slot (record fresh_site { directory = (47 ∷ 120 ∷ []) }) 1 (File (file_at 1 true true 0))) 2
    (File (file_at 1 false true 0)))
read_all_9_left = refl

pub write_1 : next (call.Write 2 (72 ∷ 81 ∷ 119 ∷ 131 ∷ 126 ∷ []))
    (with_slot (with_slot fresh_site 1 (File (file_at 0 true false 18446744073709551614))) 2
    (File (file_at 0 true true 13))) (facts 7 1 2 6 4) [] (known ((0, (reply.Handle (0 ∷ 7 ∷ []))) ∷ []))
    ≡ Ask (request.Write (0 ∷ 7 ∷ []) 13 (72 ∷ 81 ∷ []))
write_1 = refl

pub write_2 : next (call.Write 1 []) (with_slot (record fresh_site { directory = (120 ∷ []) }) 1
    (Buffered (file_at 0 false true 0) (record { len = 2; bytes = []; deferred = ((1, 4) ∷ []); reading = None })))
    (facts 53 2 2 4 3) [] (known ((0, (reply.Handle (0 ∷ 7 ∷ []))) ∷ (1, (status 0)) ∷ []))
    ≡ Done outcome.NoFile (with_slot (record fresh_site { directory = (120 ∷ []) }) 1
    (Buffered (file_at 0 false true 0) (record { len = 2; bytes = []; deferred = ((1, 4) ∷ []); reading = None })))
write_2 = refl

pub write_3 : next (call.Write 2 (213 ∷ 120 ∷ 191 ∷ 238 ∷ 245 ∷ 253 ∷ 3 ∷ []))
    (with_slot (with_slot (with_slot fresh_site 0 (Buffered (file_at 0 true true 19)
    (record { len = 1; bytes = []; deferred = ((1, 5) ∷ []); reading = None }))) 1 (File (file_at 0 true true 6))) 2
    (File (file_at 0 false true 18446744073709551611))) (facts 41 1 1 5 1)
    ((2, (request.Write (0 ∷ 7 ∷ []) 18446744073709551611 (213 ∷ []))) ∷ [])
    (known ((0, (reply.Handle (0 ∷ 7 ∷ []))) ∷ (2, (status 0)) ∷ []))
    ≡ Done (outcome.Count 1) (with_slot (with_slot (with_slot fresh_site 0
    (Buffered (file_at 0 true true 19) (record { len = 1; bytes = []; deferred = ((1, 5) ∷ []); reading = None }))) 1
    (File (file_at 0 true true 6))) 2 (File (file_at 0 false true 18446744073709551612)))
write_3 = refl

pub write_3_left : site_after_cancel (call.Write 2 (213 ∷ 120 ∷ 191 ∷ 238 ∷ 245 ∷ 253 ∷ 3 ∷ []))
    (with_slot (with_slot (with_slot fresh_site 0 (Buffered (file_at 0 true true 19)
    (record { len = 1; bytes = []; deferred = ((1, 5) ∷ []); reading = None }))) 1 (File (file_at 0 true true 6))) 2
    (File (file_at 0 false true 18446744073709551611))) (facts 41 1 1 5 1)
    ((2, (request.Write (0 ∷ 7 ∷ []) 18446744073709551611 (213 ∷ []))) ∷ [])
    (known ((0, (reply.Handle (0 ∷ 7 ∷ []))) ∷ (2, (status 0)) ∷ []))
    ≡ (with_slot (with_slot (with_slot fresh_site 0 (Buffered (file_at 0 true true 19)
    (record { len = 1; bytes = []; deferred = ((1, 5) ∷ []); reading = None }))) 1 (File (file_at 0 true true 6))) 2
    (File (file_at 0 false true 18446744073709551611)))
write_3_left = refl

pub write_4 : next (call.Write 0 []) (with_slot (with_slot (with_slot
    (record fresh_site { directory = (120 ∷ 47 ∷ []) }) 0 (File (file_at 0 true true 18446744073709551615))) 1
    (File (file_at 0 true true 18446744073709551614))) 2 (Buffered (file_at 0 false true 0)
    (record { len = 4; bytes = (201 ∷ 69 ∷ 50 ∷ 184 ∷ []); deferred = ((1, 2) ∷ []); reading = None })))
    (facts 42 2 4 7 3) [] (known ((0, (reply.Handle (0 ∷ 7 ∷ []))) ∷ (1, (status 1)) ∷ []))
    ≡ Done (outcome.Count 0) (with_slot (with_slot (with_slot (record fresh_site { directory = (120 ∷ 47 ∷ []) }) 0
    (File (file_at 0 true true 18446744073709551615))) 1 (File (file_at 0 true true 18446744073709551614))) 2
    (Buffered (file_at 0 false true 0) (record {
      len = 4;
      bytes = (201 ∷ 69 ∷ 50 ∷ 184 ∷ []);
      deferred = ((1, 2) ∷ []);
      reading = None;
    })))
write_4 = refl

pub write_5 : next (call.Write 1 (145 ∷ 194 ∷ [])) (with_slot
    (with_slot (with_slot (record fresh_site { directory = (47 ∷ 120 ∷ []) }) 0
    (Buffered (file_at 1 true false 18446744073709551614) (record
    { len = 5; bytes = []; deferred = []; reading = None }))) 1 (File (file_at 1 true true 1))) 2
    (Buffered (file_at 1 false true 18446744073709551613) (record {
      len = 2;
      bytes = (180 ∷ 122 ∷ 144 ∷ 47 ∷ []);
      deferred = ((2, 1) ∷ (3, 1) ∷ (4, 2) ∷ (5, 1) ∷ []);
      reading =
          None;
    }))) (facts 13 1 2 5 3) ((6, (request.Write (1 ∷ 7 ∷ []) 1 (145 ∷ 194 ∷ []))) ∷ [])
    (known ((0, (status 0)) ∷ (1, (reply.Handle (1 ∷ 7 ∷ []))) ∷ (4, (status 4)) ∷ (5, (status 0)) ∷ [])) ≡ Wait 6
write_5 = refl

pub write_5_left : site_after_cancel (call.Write 1 (145 ∷ 194 ∷ []))
    (with_slot (with_slot (with_slot (record fresh_site { directory = (47 ∷ 120 ∷ []) }) 0
    (Buffered (file_at 1 true false 18446744073709551614) (record
    { len = 5; bytes = []; deferred = []; reading = None }))) 1 (File (file_at 1 true true 1))) 2
    (Buffered (file_at 1 false true 18446744073709551613) (record {
      len = 2;
      bytes = (180 ∷ 122 ∷ 144 ∷ 47 ∷ []);
      deferred = ((2, 1) ∷ (3, 1) ∷ (4, 2) ∷ (5, 1) ∷ []);
      reading =
          None;
    }))) (facts 13 1 2 5 3) ((6, (request.Write (1 ∷ 7 ∷ []) 1 (145 ∷ 194 ∷ []))) ∷ [])
    (known ((0, (status 0)) ∷ (1, (reply.Handle (1 ∷ 7 ∷ []))) ∷ (4, (status 4)) ∷ (5, (status 0)) ∷ []))
    ≡ (with_slot (with_slot (with_slot (record fresh_site { directory = (47 ∷ 120 ∷ []) }) 0
    (Buffered (file_at 1 true false 18446744073709551614) (record
    { len = 5; bytes = []; deferred = []; reading = None }))) 1 (File (file_at 1 true true 1))) 2
    (Buffered (file_at 1 false true 18446744073709551613) (record {
      len = 2;
      bytes = (180 ∷ 122 ∷ 144 ∷ 47 ∷ []);
      deferred = ((2, 1) ∷ (3, 1) ∷ (4, 2) ∷ (5, 1) ∷ []);
      reading =
          None;
    })))
write_5_left = refl

pub write_6 : next (call.Write 1 (120 ∷ 118 ∷ 176 ∷ 14 ∷ 169 ∷ []))
    (with_slot (with_slot (record fresh_site { directory = (120 ∷ 47 ∷ []) }) 0
    (Buffered (file_at 0 false true 11) (record { len = 1; bytes = []; deferred = []; reading = None }))) 1
    (File (file_at 0 true false 18446744073709551612))) (facts 58 2 2 3 1) []
    (known ((0, (reply.Handle (0 ∷ 7 ∷ []))) ∷ [])) ≡ Done (outcome.Refused (error.IOError kind.NotWritable))
    (with_slot (with_slot (record fresh_site { directory = (120 ∷ 47 ∷ []) }) 0
    (Buffered (file_at 0 false true 11) (record { len = 1; bytes = []; deferred = []; reading = None }))) 1
    (File (file_at 0 true false 18446744073709551612)))
write_6 = refl

pub write_7 : next (call.Write 1 (82 ∷ 107 ∷ 103 ∷ 67 ∷ []))
    (with_slot (with_slot (with_slot (record fresh_site { directory = (47 ∷ 120 ∷ []) }) 0
    (File (file_at 1 true true 16))) 1 (File (file_at 1 true true 18446744073709551612))) 2
    (Buffered (file_at 1 true true 18446744073709551614) (record
    { len = 3; bytes = []; deferred = []; reading = None }))) (facts 47 5 4 4 2) []
    (known ((0, (status 0)) ∷ (1, (reply.Handle (1 ∷ 7 ∷ []))) ∷ []))
    ≡ Done (outcome.Refused (error.IOError kind.OffsetOverflow))
    (with_slot (with_slot (with_slot (record fresh_site { directory = (47 ∷ 120 ∷ []) }) 0
    (File (file_at 1 true true 16))) 1 (File (file_at 1 true true 18446744073709551612))) 2
    (Buffered (file_at 1 true true 18446744073709551614) (record
    { len = 3; bytes = []; deferred = []; reading = None })))
write_7 = refl

pub write_8 : next (call.Write 0 (224 ∷ 229 ∷ 71 ∷ 175 ∷ 158 ∷ 65 ∷ 53 ∷ []))
    (with_slot (with_slot (with_slot fresh_site 0 (File (file_at 1 true true 4))) 1 (File (file_at 1 false true 5))) 2
    (File (file_at 1 true true 0))) (facts 38 2 2 3 4) ((2, (request.Write (1 ∷ 7 ∷ []) 4 (224 ∷ 229 ∷ []))) ∷ [])
    (known ((0, (status 0)) ∷ (1, (reply.Handle (1 ∷ 7 ∷ []))) ∷ (2, (status 4)) ∷ []))
    ≡ Done (outcome.Refused (error.SftpError 4 [] [])) (with_slot
    (with_slot (with_slot fresh_site 0 (File (file_at 1 true true 4))) 1 (File (file_at 1 false true 5))) 2
    (File (file_at 1 true true 0)))
write_8 = refl

pub write_8_left : site_after_cancel (call.Write 0 (224 ∷ 229 ∷ 71 ∷ 175 ∷ 158 ∷ 65 ∷ 53 ∷ []))
    (with_slot (with_slot (with_slot fresh_site 0 (File (file_at 1 true true 4))) 1 (File (file_at 1 false true 5))) 2
    (File (file_at 1 true true 0))) (facts 38 2 2 3 4) ((2, (request.Write (1 ∷ 7 ∷ []) 4 (224 ∷ 229 ∷ []))) ∷ [])
    (known ((0, (status 0)) ∷ (1, (reply.Handle (1 ∷ 7 ∷ []))) ∷ (2, (status 4)) ∷ []))
    ≡ (with_slot (with_slot (with_slot fresh_site 0 (File (file_at 1 true true 4))) 1 (File (file_at 1 false true 5))) 2
    (File (file_at 1 true true 0)))
write_8_left = refl

pub write_all_1 : next (call.WriteAll 0 (155 ∷ 91 ∷ 134 ∷ 29 ∷ 162 ∷ []))
    (with_slot (with_slot (with_slot fresh_site 0 (File (file_at 0 true false 15))) 1
    (File (file_at 0 true true 18446744073709551613))) 2 (File (file_at 0 true true 10))) (facts 44 2 1 3 2) []
    (known ((0, (reply.Handle (0 ∷ 7 ∷ []))) ∷ [])) ≡ Done (outcome.Refused (error.IOError kind.NotWritable))
    (with_slot (with_slot (with_slot fresh_site 0 (File (file_at 0 true false 15))) 1
    (File (file_at 0 true true 18446744073709551613))) 2 (File (file_at 0 true true 10)))
write_all_1 = refl

pub write_all_2 : next (call.WriteAll 0 (197 ∷ [])) (with_slot
    (with_slot (with_slot fresh_site 0 (File (file_at 1 true true 0))) 1 (File (file_at 1 true false 0))) 2
    (Buffered (file_at 1 false true 18446744073709551615) (record
    { len = 2; bytes = []; deferred = []; reading = None }))) (facts 15 2 4 3 3)
    ((2, (request.Write (1 ∷ 7 ∷ []) 0 (197 ∷ []))) ∷ []) (known
    ((0, (reply.Handle (0 ∷ 7 ∷ []))) ∷ (1, (reply.Handle (1 ∷ 7 ∷ []))) ∷ (2, (status 0)) ∷ []))
    ≡ Done outcome.Done (with_slot (with_slot (with_slot fresh_site 0 (File (file_at 1 true true 1))) 1
    (File (file_at 1 true false 0))) 2 (Buffered (file_at 1 false true 18446744073709551615)
    (record { len = 2; bytes = []; deferred = []; reading = None })))
write_all_2 = refl

pub write_all_2_left : site_after_cancel (call.WriteAll 0 (197 ∷ []))
    (with_slot (with_slot (with_slot fresh_site 0 (File (file_at 1 true true 0))) 1 (File (file_at 1 true false 0))) 2
    (Buffered (file_at 1 false true 18446744073709551615) (record
    { len = 2; bytes = []; deferred = []; reading = None }))) (facts 15 2 4 3 3)
    ((2, (request.Write (1 ∷ 7 ∷ []) 0 (197 ∷ []))) ∷ []) (known
    ((0, (reply.Handle (0 ∷ 7 ∷ []))) ∷ (1, (reply.Handle (1 ∷ 7 ∷ []))) ∷ (2, (status 0)) ∷ []))
    ≡ (with_slot (with_slot (with_slot fresh_site 0 (File (file_at 1 true true 0))) 1 (File (file_at 1 true false 0))) 2
    (Buffered (file_at 1 false true 18446744073709551615) (record
    { len = 2; bytes = []; deferred = []; reading = None })))
write_all_2_left = refl

pub write_all_3 : next (call.WriteAll 2 (233 ∷ 145 ∷ 151 ∷ 191 ∷ 74 ∷ []))
    (with_slot (with_slot (with_slot fresh_site 0 (File (file_at 0 true true 15))) 1
    (Buffered (file_at 0 true true 9) (record {
      len = 4;
      bytes = (108 ∷ 14 ∷ 141 ∷ 116 ∷ []);
      deferred =
          ((1, 2) ∷ (2, 5) ∷ []);
      reading = None;
    }))) 2 (File (file_at 0 false true 3))) (facts 41 1 3 7 2)
    ((3, (request.Write (0 ∷ 7 ∷ []) 3 (233 ∷ 145 ∷ 151 ∷ []))) ∷ [])
    (known ((0, (reply.Handle (0 ∷ 7 ∷ []))) ∷ (1, (status 0)) ∷ (2, (status 0)) ∷ (3, (status 0)) ∷ []))
    ≡ Ask (request.Write (0 ∷ 7 ∷ []) 6 (191 ∷ 74 ∷ []))
write_all_3 = refl

pub write_all_3_left : site_after_cancel (call.WriteAll 2 (233 ∷ 145 ∷ 151 ∷ 191 ∷ 74 ∷ []))
    (with_slot (with_slot (with_slot fresh_site 0 (File (file_at 0 true true 15))) 1
    (Buffered (file_at 0 true true 9) (record {
      len = 4;
      bytes = (108 ∷ 14 ∷ 141 ∷ 116 ∷ []);
      deferred =
          ((1, 2) ∷ (2, 5) ∷ []);
      reading = None;
    }))) 2 (File (file_at 0 false true 3))) (facts 41 1 3 7 2)
    ((3, (request.Write (0 ∷ 7 ∷ []) 3 (233 ∷ 145 ∷ 151 ∷ []))) ∷ [])
    (known ((0, (reply.Handle (0 ∷ 7 ∷ []))) ∷ (1, (status 0)) ∷ (2, (status 0)) ∷ (3, (status 0)) ∷ []))
    ≡ (with_slot (with_slot (with_slot fresh_site 0 (File (file_at 0 true true 15))) 1
    (Buffered (file_at 0 true true 9) (record {
      len = 4;
      bytes = (108 ∷ 14 ∷ 141 ∷ 116 ∷ []);
      deferred =
          ((1, 2) ∷ (2, 5) ∷ []);
      reading = None;
    }))) 2 (File (file_at 0 false true 3)))
write_all_3_left = refl

pub write_all_4 : next (call.WriteAll 2 (16 ∷ 146 ∷ 236 ∷ 98 ∷ 162 ∷ 141 ∷ 159 ∷ []))
    (with_slot (with_slot fresh_site 0 (File (file_at 1 true true 0))) 2 (File (file_at 0 false true 0)))
    (facts 36 2 4 5 1) [] (known ((0, (reply.Handle (0 ∷ 7 ∷ []))) ∷ (1, (reply.Handle (1 ∷ 7 ∷ []))) ∷ []))
    ≡ Ask (request.Write (0 ∷ 7 ∷ []) 0 (16 ∷ 146 ∷ 236 ∷ 98 ∷ []))
write_all_4 = refl

pub write_all_5 : next (call.WriteAll 0 []) (with_slot (with_slot
    (with_slot fresh_site 0 (File (file_at 0 true true 11))) 1
    (Buffered (file_at 0 false true 5) (record {
      len = 4;
      bytes = [];
      deferred = ((1, 1) ∷ (2, 3) ∷ []);
      reading =
          None;
    }))) 2 (File (file_at 0 true true 18446744073709551613))) (facts 63 3 1 4 4) []
    (known ((0, (reply.Handle (0 ∷ 7 ∷ []))) ∷ [])) ≡ Done outcome.Done
    (with_slot (with_slot (with_slot fresh_site 0 (File (file_at 0 true true 11))) 1
    (Buffered (file_at 0 false true 5) (record {
      len = 4;
      bytes = [];
      deferred = ((1, 1) ∷ (2, 3) ∷ []);
      reading =
          None;
    }))) 2 (File (file_at 0 true true 18446744073709551613)))
write_all_5 = refl

pub write_all_6 : next (call.WriteAll 0 (156 ∷ 242 ∷ 239 ∷ 79 ∷ 182 ∷ 106 ∷ []))
    (with_slot (with_slot fresh_site 0 (File (file_at 0 true true 0))) 2 (File (file_at 0 true true 0)))
    (facts 32 1 1 7 4) ((1, (request.Write (0 ∷ 7 ∷ []) 0 (156 ∷ []))) ∷ (2, (request.Write (0 ∷ 7 ∷ []) 1 (242 ∷ [])))
    ∷ (3, (request.Write (0 ∷ 7 ∷ []) 2 (239 ∷ []))) ∷ (4, (request.Write (0 ∷ 7 ∷ []) 3 (79 ∷ []))) ∷
    (5, (request.Write (0 ∷ 7 ∷ []) 4 (182 ∷ []))) ∷ []) (known
    ((0, (reply.Handle (0 ∷ 7 ∷ []))) ∷ (1, (status 0)) ∷ (2, (status 0)) ∷ (3, (status 0)) ∷ (4, (status 0)) ∷ []))
    ≡ Wait 5
write_all_6 = refl

pub write_all_6_left : site_after_cancel (call.WriteAll 0 (156 ∷ 242 ∷ 239 ∷ 79 ∷ 182 ∷ 106 ∷ []))
    (with_slot (with_slot fresh_site 0 (File (file_at 0 true true 0))) 2 (File (file_at 0 true true 0)))
    (facts 32 1 1 7 4) ((1, (request.Write (0 ∷ 7 ∷ []) 0 (156 ∷ []))) ∷ (2, (request.Write (0 ∷ 7 ∷ []) 1 (242 ∷ [])))
    ∷ (3, (request.Write (0 ∷ 7 ∷ []) 2 (239 ∷ []))) ∷ (4, (request.Write (0 ∷ 7 ∷ []) 3 (79 ∷ []))) ∷
    (5, (request.Write (0 ∷ 7 ∷ []) 4 (182 ∷ []))) ∷ []) (known
    ((0, (reply.Handle (0 ∷ 7 ∷ []))) ∷ (1, (status 0)) ∷ (2, (status 0)) ∷ (3, (status 0)) ∷ (4, (status 0)) ∷ []))
    ≡ (with_slot (with_slot fresh_site 0 (File (file_at 0 true true 4))) 2 (File (file_at 0 true true 0)))
write_all_6_left = refl

pub write_all_7 : next (call.WriteAll 0 (42 ∷ 71 ∷ 250 ∷ 13 ∷ 47 ∷ []))
    (with_slot (with_slot (record fresh_site { directory = (47 ∷ 120 ∷ []) }) 0 (File (file_at 0 true true 5))) 2
    (Buffered (file_at 1 true true 18446744073709551611) (record
    { len = 4; bytes = (10 ∷ 17 ∷ 32 ∷ 190 ∷ []); deferred = ((2, 7) ∷ []); reading = None }))) (facts 53 5 2 7 1)
    ((3, (request.Write (0 ∷ 7 ∷ []) 5 (42 ∷ 71 ∷ []))) ∷ (4, (request.Write (0 ∷ 7 ∷ []) 7 (250 ∷ 13 ∷ []))) ∷
    (5, (request.Write (0 ∷ 7 ∷ []) 9 (47 ∷ []))) ∷ []) (known
    ((0, (reply.Handle (0 ∷ 7 ∷ []))) ∷ (1, (reply.Handle (1 ∷ 7 ∷ []))) ∷ (2, (status 0)) ∷ (3, (status 0)) ∷
    (4, (status 0)) ∷ [])) ≡ Wait 5
write_all_7 = refl

pub write_all_7_left : site_after_cancel (call.WriteAll 0 (42 ∷ 71 ∷ 250 ∷ 13 ∷ 47 ∷ []))
    (with_slot (with_slot (record fresh_site { directory = (47 ∷ 120 ∷ []) }) 0 (File (file_at 0 true true 5))) 2
    (Buffered (file_at 1 true true 18446744073709551611) (record
    { len = 4; bytes = (10 ∷ 17 ∷ 32 ∷ 190 ∷ []); deferred = ((2, 7) ∷ []); reading = None }))) (facts 53 5 2 7 1)
    ((3, (request.Write (0 ∷ 7 ∷ []) 5 (42 ∷ 71 ∷ []))) ∷ (4, (request.Write (0 ∷ 7 ∷ []) 7 (250 ∷ 13 ∷ []))) ∷
    (5, (request.Write (0 ∷ 7 ∷ []) 9 (47 ∷ []))) ∷ []) (known
    ((0, (reply.Handle (0 ∷ 7 ∷ []))) ∷ (1, (reply.Handle (1 ∷ 7 ∷ []))) ∷ (2, (status 0)) ∷ (3, (status 0)) ∷
    (4, (status 0)) ∷ [])) ≡ (with_slot (with_slot (record fresh_site { directory = (47 ∷ 120 ∷ []) }) 0
    (File (file_at 0 true true 9))) 2 (Buffered (file_at 1 true true 18446744073709551611)
    (record { len = 4; bytes = (10 ∷ 17 ∷ 32 ∷ 190 ∷ []); deferred = ((2, 7) ∷ []); reading = None })))
write_all_7_left = refl
