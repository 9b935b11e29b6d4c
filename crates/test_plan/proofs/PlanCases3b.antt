-- States of plans drawn at random, each with the move or the site that an independent model gives.
use Rattle.std.specs.Prelude.{◌≡◌, true, false, [], ◌∷◌, Some, None, refl}
use Rattle.sftp_model.specs.declared.request.Request.TheVariants as request
use Rattle.sftp_model.specs.declared.reply.Reply.TheVariants as reply
use Rattle.sftp_model.specs.declared.outcome.Outcome.TheVariants as outcome
use Rattle.sftp_model.specs.declared.error.Error.TheVariants as error
use Rattle.sftp_model.specs.declared.error.IoKind.TheVariants as kind
use Rattle.sftp_model.specs.declared.slot.Move.TheVariants.{Ask, Wait, Done}
use Rattle.sftp_model.specs.declared.slot.Slot.TheVariants.{File, Buffered}
use Rattle.sftp_model.specs.Slots.{fresh_site, with_slot}
use Rattle.plan_model.specs.declared.call.Call.TheVariants as call
use Rattle.plan_model.specs.CallPlans.{site_after_cancel, next}
use Rattle.sftp_model.specs.Answers.{status}
use Rattle.plan_model.specs.PlanWords.{known, facts, file_at}

pub buf_write_6 : next (call.BufWrite 3 (0 ∷ 184 ∷ 107 ∷ 95 ∷ 204 ∷ []))
    (with_slot (with_slot (with_slot fresh_site 0 (Buffered (file_at 0 false true 15)
    (record { len = 2; bytes = []; deferred = ((2, 5) ∷ []); reading = None }))) 1
    (Buffered (file_at 1 true true 12) (record { len = 5; bytes = []; deferred = []; reading = None }))) 2
    (Buffered (file_at 1 true false 8) (record { len = 5; bytes = []; deferred = []; reading = None })))
    (facts 9 1 3 5 4) [] (known ((0, (reply.Handle (0 ∷ 7 ∷ []))) ∷ (1, (reply.Handle (1 ∷ 7 ∷ []))) ∷ (2, (status 4)) ∷
    [])) ≡ Done outcome.NoFile (with_slot (with_slot (with_slot fresh_site 0
    (Buffered (file_at 0 false true 15) (record { len = 2; bytes = []; deferred = ((2, 5) ∷ []); reading = None }))) 1
    (Buffered (file_at 1 true true 12) (record { len = 5; bytes = []; deferred = []; reading = None }))) 2
    (Buffered (file_at 1 true false 8) (record { len = 5; bytes = []; deferred = []; reading = None })))
buf_write_6 = refl

pub buf_write_7 : next (call.BufWrite 0 (93 ∷ 220 ∷ 151 ∷ 161 ∷ 230 ∷ []))
    (with_slot (with_slot (record fresh_site { directory = (120 ∷ []) }) 0
    (Buffered (file_at 1 false true 18446744073709551611) (record
    { len = 3; bytes = (165 ∷ 24 ∷ []); deferred = ((2, 2) ∷ (3, 2) ∷ (4, 2) ∷ []); reading = None }))) 1
    (Buffered (file_at 1 false true 18446744073709551611) (record
    { len = 4; bytes = []; deferred = ((5, 2) ∷ []); reading = None }))) (facts 63 3 3 6 4) []
    (known ((0, (reply.Handle (0 ∷ 7 ∷ []))) ∷ (1, (reply.Handle (1 ∷ 7 ∷ []))) ∷ (5, (status 0)) ∷ [])) ≡ Wait 2
buf_write_7 = refl

pub buf_write_7_left : site_after_cancel (call.BufWrite 0 (93 ∷ 220 ∷ 151 ∷ 161 ∷ 230 ∷ []))
    (with_slot (with_slot (record fresh_site { directory = (120 ∷ []) }) 0
    (Buffered (file_at 1 false true 18446744073709551611) (record
    { len = 3; bytes = (165 ∷ 24 ∷ []); deferred = ((2, 2) ∷ (3, 2) ∷ (4, 2) ∷ []); reading = None }))) 1
    (Buffered (file_at 1 false true 18446744073709551611) (record
    { len = 4; bytes = []; deferred = ((5, 2) ∷ []); reading = None }))) (facts 63 3 3 6 4) []
    (known ((0, (reply.Handle (0 ∷ 7 ∷ []))) ∷ (1, (reply.Handle (1 ∷ 7 ∷ []))) ∷ (5, (status 0)) ∷ []))
    ≡ (with_slot (with_slot (record fresh_site { directory = (120 ∷ []) }) 0
    (Buffered (file_at 1 false true 18446744073709551611) (record
    { len = 3; bytes = (165 ∷ 24 ∷ []); deferred = ((2, 2) ∷ (3, 2) ∷ (4, 2) ∷ []); reading = None }))) 1
    (Buffered (file_at 1 false true 18446744073709551611) (record
    { len = 4; bytes = []; deferred = ((5, 2) ∷ []); reading = None })))
buf_write_7_left = refl

pub buf_write_8 : next (call.BufWrite 0 (47 ∷ 155 ∷ 110 ∷ 216 ∷ 122 ∷ []))
    (with_slot (with_slot (with_slot fresh_site 0 (Buffered (file_at 0 true true 18446744073709551613)
    (record { len = 4; bytes = []; deferred = []; reading = None }))) 1
    (Buffered (file_at 0 false true 1) (record { len = 1; bytes = []; deferred = ((2, 1) ∷ []); reading = None }))) 2
    (File (file_at 0 true true 11))) (facts 43 3 3 3 3) [] (known
    ((0, (reply.Handle (0 ∷ 7 ∷ []))) ∷ (1, (reply.Handle (1 ∷ 7 ∷ []))) ∷ (2, (status 0)) ∷ []))
    ≡ Done (outcome.Refused (error.IOError kind.OffsetOverflow))
    (with_slot (with_slot (with_slot fresh_site 0 (Buffered (file_at 0 true true 18446744073709551613)
    (record { len = 4; bytes = []; deferred = []; reading = None }))) 1
    (Buffered (file_at 0 false true 1) (record { len = 1; bytes = []; deferred = ((2, 1) ∷ []); reading = None }))) 2
    (File (file_at 0 true true 11)))
buf_write_8 = refl

pub buf_write_9 : next (call.BufWrite 2 []) (with_slot (with_slot
    (with_slot fresh_site 0 (File (file_at 0 true true 18446744073709551613))) 1 (File (file_at 1 true true 7))) 2
    (Buffered (file_at 1 true true 11) (record { len = 2; bytes = (133 ∷ 179 ∷ []); deferred = []; reading = None })))
    (facts 20 4 2 4 4) [] (known ((0, (reply.Handle (0 ∷ 7 ∷ []))) ∷ (1, (reply.Handle (1 ∷ 7 ∷ []))) ∷ []))
    ≡ Done (outcome.Count 0) (with_slot (with_slot (with_slot fresh_site 0
    (File (file_at 0 true true 18446744073709551613))) 1 (File (file_at 1 true true 7))) 2
    (Buffered (file_at 1 true true 11) (record { len = 2; bytes = (133 ∷ 179 ∷ []); deferred = []; reading = None })))
buf_write_9 = refl

pub buf_write_10 : next (call.BufWrite 2 []) (with_slot (with_slot
    (with_slot (record fresh_site { directory = (120 ∷ 47 ∷ []) }) 0
    (Buffered (file_at 0 true true 9) (record {
      len = 5;
      bytes = (210 ∷ []);
      deferred = ((2, 1) ∷ (3, 1) ∷ (4, 5) ∷ []);
      reading = None;
    }))) 1 (File (file_at 0 true false 18446744073709551615))) 2
    (Buffered (file_at 0 false true 0) (record { len = 3; bytes = []; deferred = ((5, 7) ∷ []); reading = None })))
    (facts 47 2 1 7 4) [] (known ((0, (reply.Handle (0 ∷ 7 ∷ []))) ∷ (1, (reply.Handle (1 ∷ 7 ∷ []))) ∷ (2, (status 4))
    ∷ (3, (status 0)) ∷ (4, (status 0)) ∷ [])) ≡ Done (outcome.Count 0)
    (with_slot (with_slot (with_slot (record fresh_site { directory = (120 ∷ 47 ∷ []) }) 0
    (Buffered (file_at 0 true true 9) (record {
      len = 5;
      bytes = (210 ∷ []);
      deferred = ((2, 1) ∷ (3, 1) ∷ (4, 5) ∷ []);
      reading = None;
    }))) 1 (File (file_at 0 true false 18446744073709551615))) 2
    (Buffered (file_at 0 false true 0) (record { len = 3; bytes = []; deferred = ((5, 7) ∷ []); reading = None })))
buf_write_10 = refl

pub buf_write_11 : next (call.BufWrite 2 (53 ∷ 228 ∷ 167 ∷ []))
    (with_slot (with_slot (with_slot fresh_site 0 (Buffered (file_at 0 true false 14)
    (record { len = 1; bytes = []; deferred = []; reading = None }))) 1
    (File (file_at 0 true true 18446744073709551612))) 2 (Buffered (file_at 0 true false 17)
    (record { len = 5; bytes = (130 ∷ 188 ∷ 118 ∷ 145 ∷ []); deferred = []; reading = None }))) (facts 29 2 3 4 2) []
    (known ((0, (reply.Handle (0 ∷ 7 ∷ []))) ∷ [])) ≡ Done (outcome.Refused (error.IOError kind.NotWritable))
    (with_slot (with_slot (with_slot fresh_site 0 (Buffered (file_at 0 true false 14)
    (record { len = 1; bytes = []; deferred = []; reading = None }))) 1
    (File (file_at 0 true true 18446744073709551612))) 2 (Buffered (file_at 0 true false 17)
    (record { len = 5; bytes = (130 ∷ 188 ∷ 118 ∷ 145 ∷ []); deferred = []; reading = None })))
buf_write_11 = refl

pub buf_write_all_1 : next (call.BufWriteAll 0 (110 ∷ [])) (with_slot
    (with_slot (with_slot fresh_site 0 (Buffered (file_at 0 true false 0)
    (record { len = 3; bytes = []; deferred = []; reading = None }))) 1 (File (file_at 1 true false 0))) 2
    (Buffered (file_at 1 true false 18446744073709551614) (record
    { len = 2; bytes = []; deferred = []; reading = (Some 2) }))) (facts 27 4 4 7 2) []
    (known ((0, (reply.Handle (0 ∷ 7 ∷ []))) ∷ (1, (reply.Handle (1 ∷ 7 ∷ []))) ∷ (2, (status 2)) ∷ []))
    ≡ Done (outcome.Refused (error.IOError kind.NotWritable)) (with_slot
    (with_slot (with_slot fresh_site 0 (Buffered (file_at 0 true false 0)
    (record { len = 3; bytes = []; deferred = []; reading = None }))) 1 (File (file_at 1 true false 0))) 2
    (Buffered (file_at 1 true false 18446744073709551614) (record
    { len = 2; bytes = []; deferred = []; reading = (Some 2) })))
buf_write_all_1 = refl

pub buf_write_all_2 : next (call.BufWriteAll 2 []) (with_slot
    (with_slot (with_slot fresh_site 0 (Buffered (file_at 1 true false 0)
    (record { len = 2; bytes = []; deferred = []; reading = (Some 2) }))) 1
    (Buffered (file_at 1 false true 18446744073709551614) (record
    { len = 3; bytes = []; deferred = ((3, 6) ∷ []); reading = None }))) 2
    (Buffered (file_at 1 false true 18) (record {
      len = 1;
      bytes = [];
      deferred = ((4, 2) ∷ (5, 4) ∷ []);
      reading =
          None;
    }))) (facts 1 4 4 6 3) [] (known ((0, (reply.Handle (0 ∷ 7 ∷ []))) ∷ (1, (reply.Handle (1 ∷ 7 ∷ []))) ∷
    (2, (status 4)) ∷ (5, (status 0)) ∷ [])) ≡ Done outcome.Done
    (with_slot (with_slot (with_slot fresh_site 0 (Buffered (file_at 1 true false 0)
    (record { len = 2; bytes = []; deferred = []; reading = (Some 2) }))) 1
    (Buffered (file_at 1 false true 18446744073709551614) (record
    { len = 3; bytes = []; deferred = ((3, 6) ∷ []); reading = None }))) 2
    (Buffered (file_at 1 false true 18) (record {
      len = 1;
      bytes = [];
      deferred = ((4, 2) ∷ (5, 4) ∷ []);
      reading =
          None;
    })))
buf_write_all_2 = refl

pub buf_write_all_3 : next (call.BufWriteAll 2 (0 ∷ 0 ∷ []))
    (with_slot (with_slot (with_slot (record fresh_site { directory = (120 ∷ []) }) 0
    (Buffered (file_at 1 true false 14) (record { len = 5; bytes = []; deferred = []; reading = None }))) 1
    (Buffered (file_at 1 true true 11) (record { len = 3; bytes = []; deferred = []; reading = (Some 2) }))) 2
    (Buffered (file_at 1 false true 0) (record { len = 2; bytes = []; deferred = []; reading = None })))
    (facts 17 3 1 4 2) [] (known ((0, (status 0)) ∷ (1, (reply.Handle (1 ∷ 7 ∷ []))) ∷ []))
    ≡ Ask (request.Write (1 ∷ 7 ∷ []) 0 (0 ∷ []))
buf_write_all_3 = refl

pub buf_write_all_4 : next (call.BufWriteAll 0 (59 ∷ 144 ∷ 146 ∷ 78 ∷ 132 ∷ 144 ∷ []))
    (with_slot (with_slot (with_slot (record fresh_site { directory = (120 ∷ []) }) 0
    (Buffered (file_at 0 false true 2) (record {
      len = 2;
      bytes = (32 ∷ 70 ∷ []);
      deferred = ((1, 2) ∷ (2, 1) ∷ []);
      reading = None;
    }))) 1 (File (file_at 0 true false 0))) 2 (File (file_at 0 true true 3))) (facts 41 5 2 3 1)
    ((3, (request.Write (0 ∷ 7 ∷ []) 2 (59 ∷ 144 ∷ []))) ∷ (4, (request.Write (0 ∷ 7 ∷ []) 4 (146 ∷ []))) ∷ [])
    (known ((0, (reply.Handle (0 ∷ 7 ∷ []))) ∷ (1, (status 0)) ∷ (2, (status 0)) ∷ (4, (status 0)) ∷ [])) ≡ Wait 3
buf_write_all_4 = refl

pub buf_write_all_4_left : site_after_cancel (call.BufWriteAll 0 (59 ∷ 144 ∷ 146 ∷ 78 ∷ 132 ∷ 144 ∷ []))
    (with_slot (with_slot (with_slot (record fresh_site { directory = (120 ∷ []) }) 0
    (Buffered (file_at 0 false true 2) (record {
      len = 2;
      bytes = (32 ∷ 70 ∷ []);
      deferred = ((1, 2) ∷ (2, 1) ∷ []);
      reading = None;
    }))) 1 (File (file_at 0 true false 0))) 2 (File (file_at 0 true true 3))) (facts 41 5 2 3 1)
    ((3, (request.Write (0 ∷ 7 ∷ []) 2 (59 ∷ 144 ∷ []))) ∷ (4, (request.Write (0 ∷ 7 ∷ []) 4 (146 ∷ []))) ∷ [])
    (known ((0, (reply.Handle (0 ∷ 7 ∷ []))) ∷ (1, (status 0)) ∷ (2, (status 0)) ∷ (4, (status 0)) ∷ []))
    ≡ (with_slot (with_slot (with_slot (record fresh_site { directory = (120 ∷ []) }) 0
    (Buffered (file_at 0 false true 5) (record {
      len = 2;
      bytes = [];
      deferred = ((3, 2) ∷ (4, 1) ∷ []);
      reading =
          None;
    }))) 1 (File (file_at 0 true false 0))) 2 (File (file_at 0 true true 3)))
buf_write_all_4_left = refl

pub buf_write_all_5 : next (call.BufWriteAll 3 (226 ∷ 20 ∷ 14 ∷ []))
    (with_slot (with_slot fresh_site 0 (Buffered (file_at 2 true true 18446744073709551612)
    (record { len = 1; bytes = (39 ∷ 119 ∷ 246 ∷ []); deferred = []; reading = None }))) 1
    (Buffered (file_at 2 false true 4) (record {
      len = 2;
      bytes = (92 ∷ []);
      deferred = ((3, 2) ∷ (4, 5) ∷ []);
      reading = None;
    }))) (facts 51 2 2 7 2) [] (known ((0, (status 0)) ∷ (1, (reply.Handle (1 ∷ 7 ∷ []))) ∷
    (2, (reply.Handle (2 ∷ 7 ∷ []))) ∷ (3, (status 0)) ∷ (4, (status 0)) ∷ []))
    ≡ Done outcome.NoFile (with_slot (with_slot fresh_site 0 (Buffered (file_at 2 true true 18446744073709551612)
    (record { len = 1; bytes = (39 ∷ 119 ∷ 246 ∷ []); deferred = []; reading = None }))) 1
    (Buffered (file_at 2 false true 4) (record {
      len = 2;
      bytes = (92 ∷ []);
      deferred = ((3, 2) ∷ (4, 5) ∷ []);
      reading = None;
    })))
buf_write_all_5 = refl

pub buf_write_all_6 : next (call.BufWriteAll 0 (218 ∷ 204 ∷ 147 ∷ 39 ∷ 87 ∷ 244 ∷ []))
    (with_slot (with_slot (with_slot (record fresh_site { directory = (120 ∷ 47 ∷ []) }) 0
    (Buffered (file_at 1 true true 4) (record { len = 2; bytes = []; deferred = ((2, 3) ∷ []); reading = (Some 3) }))) 1
    (File (file_at 1 true false 0))) 2 (File (file_at 1 false true 6))) (facts 63 5 2 3 2)
    ((4, (request.Write (1 ∷ 7 ∷ []) 4 (218 ∷ 204 ∷ []))) ∷ [])
    (known ((0, (status 0)) ∷ (1, (reply.Handle (1 ∷ 7 ∷ []))) ∷ (2, (status 0)) ∷ []))
    ≡ Ask (request.Write (1 ∷ 7 ∷ []) 6 (147 ∷ []))
buf_write_all_6 = refl

pub buf_write_all_6_left : site_after_cancel (call.BufWriteAll 0 (218 ∷ 204 ∷ 147 ∷ 39 ∷ 87 ∷ 244 ∷ []))
    (with_slot (with_slot (with_slot (record fresh_site { directory = (120 ∷ 47 ∷ []) }) 0
    (Buffered (file_at 1 true true 4) (record { len = 2; bytes = []; deferred = ((2, 3) ∷ []); reading = (Some 3) }))) 1
    (File (file_at 1 true false 0))) 2 (File (file_at 1 false true 6))) (facts 63 5 2 3 2)
    ((4, (request.Write (1 ∷ 7 ∷ []) 4 (218 ∷ 204 ∷ []))) ∷ [])
    (known ((0, (status 0)) ∷ (1, (reply.Handle (1 ∷ 7 ∷ []))) ∷ (2, (status 0)) ∷ []))
    ≡ (with_slot (with_slot (with_slot (record fresh_site { directory = (120 ∷ 47 ∷ []) }) 0
    (Buffered (file_at 1 true true 6) (record { len = 2; bytes = []; deferred = ((4, 2) ∷ []); reading = None }))) 1
    (File (file_at 1 true false 0))) 2 (File (file_at 1 false true 6)))
buf_write_all_6_left = refl

pub buf_write_all_7 : next (call.BufWriteAll 1 (238 ∷ 175 ∷ 244 ∷ 149 ∷ 141 ∷ []))
    (with_slot (with_slot (with_slot (record fresh_site { directory = (120 ∷ 47 ∷ []) }) 0
    (Buffered (file_at 0 true false 18446744073709551611) (record
    { len = 5; bytes = (230 ∷ 32 ∷ 168 ∷ 79 ∷ []); deferred = []; reading = None }))) 1
    (Buffered (file_at 0 true true 10) (record { len = 2; bytes = []; deferred = ((1, 7) ∷ []); reading = (Some 2) })))
    2 (Buffered (file_at 0 true true 18446744073709551612) (record
    { len = 1; bytes = (127 ∷ 227 ∷ 55 ∷ 191 ∷ []); deferred = []; reading = None }))) (facts 54 5 4 7 3) []
    (known ((0, (reply.Handle (0 ∷ 7 ∷ []))) ∷ [])) ≡ Wait 1
buf_write_all_7 = refl

pub buf_write_all_7_left : site_after_cancel (call.BufWriteAll 1 (238 ∷ 175 ∷ 244 ∷ 149 ∷ 141 ∷ []))
    (with_slot (with_slot (with_slot (record fresh_site { directory = (120 ∷ 47 ∷ []) }) 0
    (Buffered (file_at 0 true false 18446744073709551611) (record
    { len = 5; bytes = (230 ∷ 32 ∷ 168 ∷ 79 ∷ []); deferred = []; reading = None }))) 1
    (Buffered (file_at 0 true true 10) (record { len = 2; bytes = []; deferred = ((1, 7) ∷ []); reading = (Some 2) })))
    2 (Buffered (file_at 0 true true 18446744073709551612) (record
    { len = 1; bytes = (127 ∷ 227 ∷ 55 ∷ 191 ∷ []); deferred = []; reading = None }))) (facts 54 5 4 7 3) []
    (known ((0, (reply.Handle (0 ∷ 7 ∷ []))) ∷ [])) ≡ (with_slot
    (with_slot (with_slot (record fresh_site { directory = (120 ∷ 47 ∷ []) }) 0
    (Buffered (file_at 0 true false 18446744073709551611) (record
    { len = 5; bytes = (230 ∷ 32 ∷ 168 ∷ 79 ∷ []); deferred = []; reading = None }))) 1
    (Buffered (file_at 0 true true 10) (record { len = 2; bytes = []; deferred = ((1, 7) ∷ []); reading = (Some 2) })))
    2 (Buffered (file_at 0 true true 18446744073709551612) (record
    { len = 1; bytes = (127 ∷ 227 ∷ 55 ∷ 191 ∷ []); deferred = []; reading = None })))
buf_write_all_7_left = refl

pub buf_write_all_8 : next (call.BufWriteAll 0 (239 ∷ 34 ∷ 103 ∷ 93 ∷ 7 ∷ 105 ∷ 239 ∷ []))
    (with_slot (with_slot (with_slot (record fresh_site { directory = (47 ∷ 120 ∷ []) }) 0
    (Buffered (file_at 0 false true 6) (record {
      len = 1;
      bytes = (47 ∷ 1 ∷ 254 ∷ 51 ∷ []);
      deferred =
          ((1, 2) ∷ (2, 5) ∷ []);
      reading = None;
    }))) 1 (Buffered (file_at 0 false true 13)
    (record { len = 4; bytes = (234 ∷ []); deferred = []; reading = None }))) 2
    (Buffered (file_at 0 true true 10) (record { len = 5; bytes = []; deferred = []; reading = None })))
    (facts 61 5 2 7 1) [] (known ((0, (reply.Handle (0 ∷ 7 ∷ []))) ∷ (1, (status 4)) ∷ (2, (status 0)) ∷ []))
    ≡ Done (outcome.Refused (error.SftpError 4 [] [])) (with_slot
    (with_slot (with_slot (record fresh_site { directory = (47 ∷ 120 ∷ []) }) 0
    (Buffered (file_at 0 false true 6) (record {
      len = 1;
      bytes = (47 ∷ 1 ∷ 254 ∷ 51 ∷ []);
      deferred = ((2, 5) ∷ []);
      reading = None;
    }))) 1 (Buffered (file_at 0 false true 13) (record
    { len = 4; bytes = (234 ∷ []); deferred = []; reading = None }))) 2
    (Buffered (file_at 0 true true 10) (record { len = 5; bytes = []; deferred = []; reading = None })))
buf_write_all_8 = refl

pub buf_write_all_9 : next (call.BufWriteAll 0 (149 ∷ 102 ∷ 236 ∷ 169 ∷ 254 ∷ 72 ∷ 16 ∷ []))
    (with_slot (with_slot (with_slot fresh_site 0 (Buffered (file_at 0 true true 14)
    (record { len = 4; bytes = []; deferred = ((1, 7) ∷ []); reading = None }))) 1
    (Buffered (file_at 0 true true 7) (record { len = 3; bytes = []; deferred = ((2, 4) ∷ []); reading = (Some 3) }))) 2
    (File (file_at 0 true true 18446744073709551614))) (facts 58 5 4 7 3)
    ((4, (request.Write (0 ∷ 7 ∷ []) 14 (149 ∷ 102 ∷ 236 ∷ 169 ∷ []))) ∷
    (5, (request.Write (0 ∷ 7 ∷ []) 18 (254 ∷ 72 ∷ 16 ∷ []))) ∷ [])
    (known ((0, (reply.Handle (0 ∷ 7 ∷ []))) ∷ (1, (status 0)) ∷ (2, (status 0)) ∷ (3, (status 1)) ∷ []))
    ≡ Done outcome.Done (with_slot (with_slot (with_slot fresh_site 0
    (Buffered (file_at 0 true true 21) (record {
      len = 4;
      bytes = [];
      deferred = ((4, 4) ∷ (5, 3) ∷ []);
      reading =
          None;
    }))) 1 (Buffered (file_at 0 true true 7) (record {
      len = 3;
      bytes = [];
      deferred = ((2, 4) ∷ []);
      reading =
          (Some 3);
    }))) 2 (File (file_at 0 true true 18446744073709551614)))
buf_write_all_9 = refl

pub buf_write_all_9_left : site_after_cancel (call.BufWriteAll 0 (149 ∷ 102 ∷ 236 ∷ 169 ∷ 254 ∷ 72 ∷ 16 ∷ []))
    (with_slot (with_slot (with_slot fresh_site 0 (Buffered (file_at 0 true true 14)
    (record { len = 4; bytes = []; deferred = ((1, 7) ∷ []); reading = None }))) 1
    (Buffered (file_at 0 true true 7) (record { len = 3; bytes = []; deferred = ((2, 4) ∷ []); reading = (Some 3) }))) 2
    (File (file_at 0 true true 18446744073709551614))) (facts 58 5 4 7 3)
    ((4, (request.Write (0 ∷ 7 ∷ []) 14 (149 ∷ 102 ∷ 236 ∷ 169 ∷ []))) ∷
    (5, (request.Write (0 ∷ 7 ∷ []) 18 (254 ∷ 72 ∷ 16 ∷ []))) ∷ [])
    (known ((0, (reply.Handle (0 ∷ 7 ∷ []))) ∷ (1, (status 0)) ∷ (2, (status 0)) ∷ (3, (status 1)) ∷ []))
    ≡ (with_slot (with_slot (with_slot fresh_site 0 (Buffered (file_at 0 true true 21)
    (record { len = 4; bytes = []; deferred = ((4, 4) ∷ (5, 3) ∷ []); reading = None }))) 1
    (Buffered (file_at 0 true true 7) (record { len = 3; bytes = []; deferred = ((2, 4) ∷ []); reading = (Some 3) }))) 2
    (File (file_at 0 true true 18446744073709551614)))
buf_write_all_9_left = refl

pub buf_write_all_10 : next (call.BufWriteAll 0 (214 ∷ [])) (with_slot
    (with_slot (with_slot (record fresh_site { directory = (120 ∷ 47 ∷ []) }) 0
    (Buffered (file_at 1 false true 0) (record {
      len = 1;
      bytes = (226 ∷ 143 ∷ 249 ∷ 1 ∷ []);
      deferred = ((2, 3) ∷ []);
      reading = None;
    }))) 1 (File (file_at 0 true false 18446744073709551612))) 2
    (Buffered (file_at 0 false true 0) (record { len = 3; bytes = []; deferred = ((3, 3) ∷ []); reading = None })))
    (facts 54 2 2 3 3) ((4, (request.Write (1 ∷ 7 ∷ []) 0 (214 ∷ []))) ∷ [])
    (known ((0, (reply.Handle (0 ∷ 7 ∷ []))) ∷ (1, (reply.Handle (1 ∷ 7 ∷ []))) ∷ (2, (status 0)) ∷ (3, (status 0)) ∷
    (4, (status 0)) ∷ [])) ≡ Done outcome.Done (with_slot (with_slot
    (with_slot (record fresh_site { directory = (120 ∷ 47 ∷ []) }) 0
    (Buffered (file_at 1 false true 1) (record {
      len = 1;
      bytes = (143 ∷ 249 ∷ 1 ∷ []);
      deferred = ((4, 1) ∷ []);
      reading = None;
    }))) 1 (File (file_at 0 true false 18446744073709551612))) 2
    (Buffered (file_at 0 false true 0) (record { len = 3; bytes = []; deferred = ((3, 3) ∷ []); reading = None })))
buf_write_all_10 = refl

pub buf_write_all_10_left : site_after_cancel (call.BufWriteAll 0 (214 ∷ []))
    (with_slot (with_slot (with_slot (record fresh_site { directory = (120 ∷ 47 ∷ []) }) 0
    (Buffered (file_at 1 false true 0) (record {
      len = 1;
      bytes = (226 ∷ 143 ∷ 249 ∷ 1 ∷ []);
      deferred = ((2, 3) ∷ []);
      reading = None;
    }))) 1 (File (file_at 0 true false 18446744073709551612))) 2
    (Buffered (file_at 0 false true 0) (record { len = 3; bytes = []; deferred = ((3, 3) ∷ []); reading = None })))
    (facts 54 2 2 3 3) ((4, (request.Write (1 ∷ 7 ∷ []) 0 (214 ∷ []))) ∷ [])
    (known ((0, (reply.Handle (0 ∷ 7 ∷ []))) ∷ (1, (reply.Handle (1 ∷ 7 ∷ []))) ∷ (2, (status 0)) ∷ (3, (status 0)) ∷
    (4, (status 0)) ∷ [])) ≡ (with_slot (with_slot (with_slot (record fresh_site { directory = (120 ∷ 47 ∷ []) }) 0
    (Buffered (file_at 1 false true 1) (record {
      len = 1;
      bytes = (143 ∷ 249 ∷ 1 ∷ []);
      deferred = ((4, 1) ∷ []);
      reading = None;
    }))) 1 (File (file_at 0 true false 18446744073709551612))) 2
    (Buffered (file_at 0 false true 0) (record { len = 3; bytes = []; deferred = ((3, 3) ∷ []); reading = None })))
buf_write_all_10_left = refl

pub buf_write_all_11 : next (call.BufWriteAll 1 (224 ∷ 200 ∷ 230 ∷ 130 ∷ 76 ∷ 133 ∷ []))
    (with_slot (with_slot (with_slot fresh_site 0 (File (file_at 0 true false 1))) 1
    (Buffered (file_at 0 true true 18446744073709551613) (record
    { len = 3; bytes = []; deferred = []; reading = None }))) 2
    (Buffered (file_at 0 true true 3) (record {
      len = 1;
      bytes = [];
      deferred = ((1, 3) ∷ (2, 3) ∷ []);
      reading =
          (Some 3);
    }))) (facts 44 3 3 6 1) [] (known ((0, (reply.Handle (0 ∷ 7 ∷ []))) ∷ (2, (status 0)) ∷
    (3, (reply.Content (18 ∷ 88 ∷ 108 ∷ []))) ∷ [])) ≡ Done (outcome.Refused (error.IOError kind.OffsetOverflow))
    (with_slot (with_slot (with_slot fresh_site 0 (File (file_at 0 true false 1))) 1
    (Buffered (file_at 0 true true 18446744073709551613) (record
    { len = 3; bytes = []; deferred = []; reading = None }))) 2
    (Buffered (file_at 0 true true 3) (record {
      len = 1;
      bytes = [];
      deferred = ((1, 3) ∷ (2, 3) ∷ []);
      reading =
          (Some 3);
    })))
buf_write_all_11 = refl
