-- States of plans drawn at random, each with the move or the site that an independent model gives.
use Rattle.std.specs.Prelude.{◌≡◌, true, false, [], ◌∷◌, Some, None, refl}
use Rattle.sftp_model.specs.declared.request.Request.TheVariants as request
use Rattle.sftp_model.specs.declared.reply.Reply.TheVariants as reply
use Rattle.sftp_model.specs.declared.outcome.Outcome.TheVariants as outcome
use Rattle.sftp_model.specs.declared.error.Error.TheVariants as error
use Rattle.sftp_model.specs.declared.error.IoKind.TheVariants as kind
use Rattle.sftp_model.specs.declared.slot.Move.TheVariants.{Ask, Wait, Done}
use Rattle.sftp_model.specs.declared.slot.Slot.TheVariants.{File, Buffered}
use Rattle.sftp_model.specs.Slots.{fresh_site, with_slot}
use Rattle.plan_model.specs.declared.call.Call.TheVariants as call
use Rattle.plan_model.specs.CallPlans.{site_after_cancel, next}
use Rattle.sftp_model.specs.Answers.{status}
use Rattle.plan_model.specs.PlanWords.{known, facts, file_at}

pub close_2 : next (call.Close 3) (with_slot (with_slot (with_slot fresh_site 0 (File (file_at 1 true false 0))) 1
    (Buffered (file_at 1 false true 5) (record {
      len = 2;
      bytes = [];
      deferred = ((2, 4) ∷ (3, 1) ∷ []);
      reading =
          None;
    }))) 2 (File (file_at 1 false true 9))) (facts 44 2 4 5 2) []
    (known ((0, (status 0)) ∷ (1, (reply.Handle (1 ∷ 7 ∷ []))) ∷ (2, (status 0)) ∷ (3, (status 1)) ∷ []))
    ≡ Done outcome.NoFile (with_slot (with_slot (with_slot fresh_site 0 (File (file_at 1 true false 0))) 1
    (Buffered (file_at 1 false true 5) (record {
      len = 2;
      bytes = [];
      deferred = ((2, 4) ∷ (3, 1) ∷ []);
      reading =
          None;
    }))) 2 (File (file_at 1 false true 9)))
close_2 = refl

pub close_3 : next (call.Close 0) (with_slot fresh_site 0 (File (file_at 0 false true 18))) (facts 43 1 2 3 4)
    ((1, (request.Close (0 ∷ 7 ∷ []))) ∷ []) (known ((0, (reply.Handle (0 ∷ 7 ∷ []))) ∷ (1, (status 1)) ∷ []))
    ≡ Done (outcome.Refused (error.SftpError 1 [] [])) fresh_site
close_3 = refl

pub close_3_left : site_after_cancel (call.Close 0) (with_slot fresh_site 0 (File (file_at 0 false true 18)))
    (facts 43 1 2 3 4)
    ((1, (request.Close (0 ∷ 7 ∷ []))) ∷ []) (known ((0, (reply.Handle (0 ∷ 7 ∷ []))) ∷ (1, (status 1)) ∷ []))
    ≡ fresh_site
close_3_left = refl

pub close_4 : next (call.Close 0) (with_slot (with_slot (with_slot fresh_site 0 (File (file_at 1 true false 17))) 1
    (File (file_at 2 true true 11))) 2 (File (file_at 2 true true 19))) (facts 54 5 2 4 2)
    ((3, (request.Close (1 ∷ 7 ∷ []))) ∷ []) (known ((0, (status 0)) ∷ (1, (reply.Handle (1 ∷ 7 ∷ []))) ∷
    (2, (reply.Handle (2 ∷ 7 ∷ []))) ∷ [])) ≡ Wait 3
close_4 = refl

pub close_4_left : site_after_cancel (call.Close 0) (with_slot (with_slot
    (with_slot fresh_site 0 (File (file_at 1 true false 17))) 1 (File (file_at 2 true true 11))) 2
    (File (file_at 2 true true 19))) (facts 54 5 2 4 2) ((3, (request.Close (1 ∷ 7 ∷ []))) ∷ [])
    (known ((0, (status 0)) ∷ (1, (reply.Handle (1 ∷ 7 ∷ []))) ∷ (2, (reply.Handle (2 ∷ 7 ∷ []))) ∷ []))
    ≡ (with_slot (with_slot fresh_site 1 (File (file_at 2 true true 11))) 2 (File (file_at 2 true true 19)))
close_4_left = refl

pub close_5 : next (call.Close 2) (with_slot fresh_site 2 (File (file_at 0 true true 0))) (facts 14 2 3 6 4) []
    (known ((0, (reply.Handle (0 ∷ 7 ∷ []))) ∷ (1, (reply.Handle (1 ∷ 7 ∷ []))) ∷ []))
    ≡ Ask (request.Close (0 ∷ 7 ∷ []))
close_5 = refl

pub buffer_1 : next (call.Buffer 0 4) (with_slot (with_slot fresh_site 0
    (Buffered (file_at 2 true true 0) (record {
      len = 1;
      bytes = (209 ∷ []);
      deferred = ((3, 1) ∷ (4, 6) ∷ []);
      reading = None;
    }))) 1 (File (file_at 2 true true 0))) (facts 33 5 1 7 2) []
    (known ((0, (status 0)) ∷ (1, (reply.Handle (1 ∷ 7 ∷ []))) ∷ (2, (reply.Handle (2 ∷ 7 ∷ []))) ∷ (4, (status 0)) ∷
    [])) ≡ Done outcome.NoFile (with_slot (with_slot fresh_site 0
    (Buffered (file_at 2 true true 0) (record {
      len = 1;
      bytes = (209 ∷ []);
      deferred = ((3, 1) ∷ (4, 6) ∷ []);
      reading = None;
    }))) 1 (File (file_at 2 true true 0)))
buffer_1 = refl

pub buffer_2 : next (call.Buffer 1 4) (with_slot (with_slot (with_slot (record fresh_site { directory = (120 ∷ []) }) 0
    (Buffered (file_at 1 true true 0) (record {
      len = 5;
      bytes = [];
      deferred = ((2, 2) ∷ (3, 1) ∷ (4, 1) ∷ []);
      reading = None;
    }))) 1 (File (file_at 1 true true 18))) 2 (Buffered (file_at 1 true true 0)
    (record { len = 5; bytes = []; deferred = ((5, 2) ∷ []); reading = (Some 6) }))) (facts 22 4 2 4 2) []
    (known ((0, (status 0)) ∷ (1, (reply.Handle (1 ∷ 7 ∷ []))) ∷ (3, (status 0)) ∷ (4, (status 4)) ∷ (5, (status 0)) ∷
    [])) ≡ Done outcome.Done (with_slot (with_slot (with_slot (record fresh_site { directory = (120 ∷ []) }) 0
    (Buffered (file_at 1 true true 0) (record {
      len = 5;
      bytes = [];
      deferred = ((2, 2) ∷ (3, 1) ∷ (4, 1) ∷ []);
      reading = None;
    }))) 1 (Buffered (file_at 1 true true 18) (record
    { len = 4; bytes = []; deferred = []; reading = None }))) 2
    (Buffered (file_at 1 true true 0) (record { len = 5; bytes = []; deferred = ((5, 2) ∷ []); reading = (Some 6) })))
buffer_2 = refl

pub buffer_3 : next (call.Buffer 2 8) (with_slot (with_slot (record fresh_site { directory = (120 ∷ 47 ∷ []) }) 1
    (Buffered (file_at 1 true false 8) (record { len = 2; bytes = []; deferred = []; reading = None }))) 2
    (File (file_at 1 false true 18446744073709551614))) (facts 32 2 2 3 4) []
    (known ((0, (status 0)) ∷ (1, (reply.Handle (1 ∷ 7 ∷ []))) ∷ (2, (reply.Handle (2 ∷ 7 ∷ []))) ∷ []))
    ≡ Done outcome.Done (with_slot (with_slot (record fresh_site { directory = (120 ∷ 47 ∷ []) }) 1
    (Buffered (file_at 1 true false 8) (record { len = 2; bytes = []; deferred = []; reading = None }))) 2
    (Buffered (file_at 1 false true 18446744073709551614) (record
    { len = 8; bytes = []; deferred = []; reading = None })))
buffer_3 = refl

pub unbuffer_1 : next (call.Unbuffer 0) (with_slot (with_slot fresh_site 0
    (Buffered (file_at 1 true true 18446744073709551612) (record
    { len = 3; bytes = []; deferred = ((3, 7) ∷ []); reading = (Some 4) }))) 2
    (Buffered (file_at 1 true false 18446744073709551613) (record
    { len = 4; bytes = []; deferred = []; reading = (Some 5) }))) (facts 48 3 3 7 2) []
    (known ((0, (status 0)) ∷ (1, (reply.Handle (1 ∷ 7 ∷ []))) ∷ (2, (reply.Handle (2 ∷ 7 ∷ []))) ∷
    (5, (reply.Content (189 ∷ 90 ∷ 145 ∷ 219 ∷ []))) ∷ [])) ≡ Done outcome.Done
    (with_slot (with_slot fresh_site 0 (File (file_at 1 true true 18446744073709551612))) 2
    (Buffered (file_at 1 true false 18446744073709551613) (record
    { len = 4; bytes = []; deferred = []; reading = (Some 5) })))
unbuffer_1 = refl

pub unbuffer_2 : next (call.Unbuffer 0) (with_slot (with_slot (record fresh_site { directory = (47 ∷ 120 ∷ []) }) 0
    (File (file_at 2 true false 18446744073709551612))) 2 (File (file_at 1 true true 0))) (facts 17 5 2 3 2) []
    (known ((0, (status 0)) ∷ (1, (reply.Handle (1 ∷ 7 ∷ []))) ∷ (2, (reply.Handle (2 ∷ 7 ∷ []))) ∷ []))
    ≡ Done outcome.NoFile (with_slot (with_slot (record fresh_site { directory = (47 ∷ 120 ∷ []) }) 0
    (File (file_at 2 true false 18446744073709551612))) 2 (File (file_at 1 true true 0)))
unbuffer_2 = refl

pub unbuffer_3 : next (call.Unbuffer 1) (with_slot (with_slot (with_slot fresh_site 0 (File (file_at 0 true true 18))) 1
    (Buffered (file_at 0 true false 0) (record { len = 2; bytes = []; deferred = []; reading = None }))) 2
    (Buffered (file_at 0 true true 16) (record { len = 2; bytes = (104 ∷ []); deferred = []; reading = None })))
    (facts 3 3 3 6 2) [] (known ((0, (reply.Handle (0 ∷ 7 ∷ []))) ∷ []))
    ≡ Done outcome.Done (with_slot (with_slot (with_slot fresh_site 0 (File (file_at 0 true true 18))) 1
    (File (file_at 0 true false 0))) 2 (Buffered (file_at 0 true true 16)
    (record { len = 2; bytes = (104 ∷ []); deferred = []; reading = None })))
unbuffer_3 = refl

pub buf_read_1 : next (call.BufRead 2 9) (with_slot (with_slot
    (with_slot (record fresh_site { directory = (47 ∷ 120 ∷ []) }) 0 (File (file_at 1 false true 0))) 1
    (Buffered (file_at 1 false true 18446744073709551615) (record
    { len = 1; bytes = (226 ∷ 15 ∷ 106 ∷ []); deferred = ((2, 7) ∷ []); reading = None }))) 2
    (Buffered (file_at 0 false true 15) (record {
      len = 3;
      bytes = (21 ∷ 37 ∷ []);
      deferred =
          ((3, 1) ∷ (4, 1) ∷ (5, 5) ∷ []);
      reading = None;
    }))) (facts 50 3 1 7 2) []
    (known ((0, (reply.Handle (0 ∷ 7 ∷ []))) ∷ (1, (reply.Handle (1 ∷ 7 ∷ []))) ∷ (2, (status 0)) ∷ (5, (status 0)) ∷
    [])) ≡ Done (outcome.Refused (error.IOError kind.NotReadable))
    (with_slot (with_slot (with_slot (record fresh_site { directory = (47 ∷ 120 ∷ []) }) 0
    (File (file_at 1 false true 0))) 1 (Buffered (file_at 1 false true 18446744073709551615)
    (record { len = 1; bytes = (226 ∷ 15 ∷ 106 ∷ []); deferred = ((2, 7) ∷ []); reading = None }))) 2
    (Buffered (file_at 0 false true 15) (record {
      len = 3;
      bytes = (21 ∷ 37 ∷ []);
      deferred =
          ((3, 1) ∷ (4, 1) ∷ (5, 5) ∷ []);
      reading = None;
    })))
buf_read_1 = refl

pub buf_read_2 : next (call.BufRead 1 7) (with_slot (with_slot (with_slot fresh_site 0 (File (file_at 1 false true 11)))
    1 (Buffered (file_at 1 true false 18446744073709551612) (record
    { len = 3; bytes = []; deferred = []; reading = None }))) 2 (File (file_at 1 true false 11))) (facts 47 3 1 5 2)
    ((2, (request.Read (1 ∷ 7 ∷ []) 18446744073709551612 3)) ∷ [])
    (known ((0, (reply.Handle (0 ∷ 7 ∷ []))) ∷ (1, (reply.Handle (1 ∷ 7 ∷ []))) ∷ [])) ≡ Wait 2
buf_read_2 = refl

pub buf_read_2_left : site_after_cancel (call.BufRead 1 7) (with_slot
    (with_slot (with_slot fresh_site 0 (File (file_at 1 false true 11))) 1
    (Buffered (file_at 1 true false 18446744073709551612) (record
    { len = 3; bytes = []; deferred = []; reading = None }))) 2 (File (file_at 1 true false 11))) (facts 47 3 1 5 2)
    ((2, (request.Read (1 ∷ 7 ∷ []) 18446744073709551612 3)) ∷ [])
    (known ((0, (reply.Handle (0 ∷ 7 ∷ []))) ∷ (1, (reply.Handle (1 ∷ 7 ∷ []))) ∷ []))
    ≡ (with_slot (with_slot (with_slot fresh_site 0 (File (file_at 1 false true 11))) 1
    (Buffered (file_at 1 true false 18446744073709551612) (record
    { len = 3; bytes = []; deferred = []; reading = (Some 2) }))) 2 (File (file_at 1 true false 11)))
buf_read_2_left = refl

pub buf_read_3 : next (call.BufRead 2 1) (with_slot (with_slot
    (with_slot (record fresh_site { directory = (120 ∷ 47 ∷ []) }) 0
    (Buffered (file_at 0 false true 18446744073709551613) (record
    { len = 4; bytes = []; deferred = []; reading = None }))) 1 (File (file_at 0 true false 3))) 2
    (Buffered (file_at 0 true false 18446744073709551615) (record
    { len = 4; bytes = []; deferred = []; reading = None }))) (facts 43 4 2 4 1) []
    (known ((0, (reply.Handle (0 ∷ 7 ∷ []))) ∷ [])) ≡ Done (outcome.Refused (error.IOError kind.OffsetOverflow))
    (with_slot (with_slot (with_slot (record fresh_site { directory = (120 ∷ 47 ∷ []) }) 0
    (Buffered (file_at 0 false true 18446744073709551613) (record
    { len = 4; bytes = []; deferred = []; reading = None }))) 1 (File (file_at 0 true false 3))) 2
    (Buffered (file_at 0 true false 18446744073709551615) (record
    { len = 4; bytes = []; deferred = []; reading = None })))
buf_read_3 = refl

pub buf_read_4 : next (call.BufRead 2 5) (with_slot (with_slot
    (with_slot fresh_site 0 (Buffered (file_at 1 false true 0)
    (record { len = 3; bytes = (1 ∷ 177 ∷ 180 ∷ 214 ∷ []); deferred = ((2, 1) ∷ (3, 2) ∷ []); reading = None }))) 1
    (Buffered (file_at 1 true true 0) (record { len = 2; bytes = []; deferred = ((4, 3) ∷ []); reading = (Some 5) }))) 2
    (Buffered (file_at 1 true false 9) (record { len = 1; bytes = []; deferred = []; reading = None })))
    (facts 29 1 4 3 2) ((6, (request.Read (1 ∷ 7 ∷ []) 9 1)) ∷ [])
    (known ((0, (reply.Handle (0 ∷ 7 ∷ []))) ∷ (1, (reply.Handle (1 ∷ 7 ∷ []))) ∷ (2, (status 0)) ∷ (3, (status 0)) ∷
    (4, (status 0)) ∷ (6, (reply.Content (135 ∷ []))) ∷ [])) ≡ Done (outcome.Bytes (135 ∷ []))
    (with_slot (with_slot (with_slot fresh_site 0 (Buffered (file_at 1 false true 0)
    (record { len = 3; bytes = (1 ∷ 177 ∷ 180 ∷ 214 ∷ []); deferred = ((2, 1) ∷ (3, 2) ∷ []); reading = None }))) 1
    (Buffered (file_at 1 true true 0) (record { len = 2; bytes = []; deferred = ((4, 3) ∷ []); reading = (Some 5) }))) 2
    (Buffered (file_at 1 true false 10) (record { len = 1; bytes = []; deferred = []; reading = None })))
buf_read_4 = refl

pub buf_read_4_left : site_after_cancel (call.BufRead 2 5) (with_slot
    (with_slot (with_slot fresh_site 0 (Buffered (file_at 1 false true 0)
    (record { len = 3; bytes = (1 ∷ 177 ∷ 180 ∷ 214 ∷ []); deferred = ((2, 1) ∷ (3, 2) ∷ []); reading = None }))) 1
    (Buffered (file_at 1 true true 0) (record { len = 2; bytes = []; deferred = ((4, 3) ∷ []); reading = (Some 5) }))) 2
    (Buffered (file_at 1 true false 9) (record { len = 1; bytes = []; deferred = []; reading = None })))
    (facts 29 1 4 3 2) ((6, (request.Read (1 ∷ 7 ∷ []) 9 1)) ∷ [])
    (known ((0, (reply.Handle (0 ∷ 7 ∷ []))) ∷ (1, (reply.Handle (1 ∷ 7 ∷ []))) ∷ (2, (status 0)) ∷ (3, (status 0)) ∷
    (4, (status 0)) ∷ (6, (reply.Content (135 ∷ []))) ∷ [])) ≡
    (with_slot (with_slot (with_slot fresh_site 0 (Buffered (file_at 1 false true 0)
    (record { len = 3; bytes = (1 ∷ 177 ∷ 180 ∷ 214 ∷ []); deferred = ((2, 1) ∷ (3, 2) ∷ []); reading = None }))) 1
    (Buffered (file_at 1 true true 0) (record { len = 2; bytes = []; deferred = ((4, 3) ∷ []); reading = (Some 5) }))) 2
    (Buffered (file_at 1 true false 9) (record { len = 1; bytes = []; deferred = []; reading = (Some 6) })))
buf_read_4_left = refl

pub buf_read_5 : next (call.BufRead 0 7) (with_slot (with_slot fresh_site 0
    (Buffered (file_at 1 true false 0) (record { len = 4; bytes = []; deferred = []; reading = (Some 2) }))) 1
    (File (file_at 1 true true 0))) (facts 60 5 2 3 3) [] (known
    ((0, (reply.Handle (0 ∷ 7 ∷ []))) ∷ (1, (reply.Handle (1 ∷ 7 ∷ []))) ∷ (2, (status 1)) ∷ []))
    ≡ Done outcome.End (with_slot (with_slot fresh_site 0 (Buffered (file_at 1 true false 0)
    (record { len = 4; bytes = []; deferred = []; reading = None }))) 1 (File (file_at 1 true true 0)))
buf_read_5 = refl

pub buf_read_6 : next (call.BufRead 2 0) (with_slot (with_slot (with_slot fresh_site 0 (File (file_at 0 true true 2))) 1
    (File (file_at 0 true false 19))) 2 (Buffered (file_at 0 true true 19)
    (record { len = 1; bytes = []; deferred = ((1, 1) ∷ []); reading = (Some 2) }))) (facts 47 2 3 7 4) []
    (known ((0, (reply.Handle (0 ∷ 7 ∷ []))) ∷ (2, (status 1)) ∷ []))
    ≡ Done (outcome.Bytes []) (with_slot (with_slot (with_slot fresh_site 0 (File (file_at 0 true true 2))) 1
    (File (file_at 0 true false 19))) 2 (Buffered (file_at 0 true true 19)
    (record { len = 1; bytes = []; deferred = ((1, 1) ∷ []); reading = (Some 2) })))
buf_read_6 = refl

pub buf_read_7 : next (call.BufRead 2 6) (with_slot (record fresh_site { directory = (120 ∷ []) }) 2
    (Buffered (file_at 1 true false 0) (record { len = 5; bytes = []; deferred = []; reading = None })))
    (facts 27 4 3 4 2) [] (known ((0, (reply.Handle (0 ∷ 7 ∷ []))) ∷ (1, (reply.Handle (1 ∷ 7 ∷ []))) ∷ []))
    ≡ Ask (request.Read (1 ∷ 7 ∷ []) 0 4)
buf_read_7 = refl

pub buf_read_8 : next (call.BufRead 2 5) (with_slot (with_slot (with_slot fresh_site 0 (File (file_at 0 true true 3))) 1
    (Buffered (file_at 0 true false 2) (record { len = 1; bytes = (88 ∷ 7 ∷ []); deferred = []; reading = None }))) 2
    (File (file_at 0 true false 16))) (facts 38 2 3 4 3) [] (known ((0, (reply.Handle (0 ∷ 7 ∷ []))) ∷ []))
    ≡ Done outcome.NoFile (with_slot (with_slot (with_slot fresh_site 0 (File (file_at 0 true true 3))) 1
    (Buffered (file_at 0 true false 2) (record { len = 1; bytes = (88 ∷ 7 ∷ []); deferred = []; reading = None }))) 2
    (File (file_at 0 true false 16)))
buf_read_8 = refl

pub buf_read_9 : next (call.BufRead 1 8) (with_slot (with_slot
    (with_slot fresh_site 0 (File (file_at 0 false true 18446744073709551615))) 1
    (Buffered (file_at 0 true true 16) (record { len = 1; bytes = []; deferred = []; reading = (Some 1) }))) 2
    (File (file_at 0 true true 17))) (facts 29 4 4 6 2) [] (known ((0, (reply.Handle (0 ∷ 7 ∷ []))) ∷ [])) ≡ Wait 1
buf_read_9 = refl

pub buf_read_9_left : site_after_cancel (call.BufRead 1 8) (with_slot
    (with_slot (with_slot fresh_site 0 (File (file_at 0 false true 18446744073709551615))) 1
    (Buffered (file_at 0 true true 16) (record { len = 1; bytes = []; deferred = []; reading = (Some 1) }))) 2
    (File (file_at 0 true true 17))) (facts 29 4 4 6 2) [] (known ((0, (reply.Handle (0 ∷ 7 ∷ []))) ∷ []))
    ≡ (with_slot (with_slot (with_slot fresh_site 0 (File (file_at 0 false true 18446744073709551615))) 1
    (Buffered (file_at 0 true true 16) (record { len = 1; bytes = []; deferred = []; reading = (Some 1) }))) 2
    (File (file_at 0 true true 17)))
buf_read_9_left = refl

pub buf_read_10 : next (call.BufRead 1 3) (with_slot (with_slot (record fresh_site { directory = (120 ∷ 47 ∷ []) }) 0
    (File (file_at 0 false true 6))) 1 (Buffered (file_at 0 true false 7)
    (record { len = 3; bytes = []; deferred = []; reading = None }))) (facts 38 5 1 6 4)
    ((1, (request.Read (0 ∷ 7 ∷ []) 7 3)) ∷ []) (known ((0, (reply.Handle (0 ∷ 7 ∷ []))) ∷ (1, (status 1)) ∷ []))
    ≡ Done outcome.End (with_slot (with_slot (record fresh_site { directory = (120 ∷ 47 ∷ []) }) 0
    (File (file_at 0 false true 6))) 1 (Buffered (file_at 0 true false 7)
    (record { len = 3; bytes = []; deferred = []; reading = None })))
buf_read_10 = refl

pub buf_read_10_left : site_after_cancel (call.BufRead 1 3) (with_slot
    (with_slot (record fresh_site { directory = (120 ∷ 47 ∷ []) }) 0 (File (file_at 0 false true 6))) 1
    (Buffered (file_at 0 true false 7) (record { len = 3; bytes = []; deferred = []; reading = None })))
    (facts 38 5 1 6 4) ((1, (request.Read (0 ∷ 7 ∷ []) 7 3)) ∷ [])
    (known ((0, (reply.Handle (0 ∷ 7 ∷ []))) ∷ (1, (status 1)) ∷ []))
    ≡ (with_slot (with_slot (record fresh_site { directory = (120 ∷ 47 ∷ []) }) 0 (File (file_at 0 false true 6))) 1
    (Buffered (file_at 0 true false 7) (record { len = 3; bytes = []; deferred = []; reading = (Some 1) })))
buf_read_10_left = refl

pub buf_read_11 : next (call.BufRead 0 5) (with_slot (with_slot fresh_site 0
    (Buffered (file_at 1 true false 19) (record { len = 2; bytes = []; deferred = []; reading = None }))) 1
    (Buffered (file_at 0 false true 17) (record { len = 5; bytes = []; deferred = []; reading = None })))
    (facts 26 4 2 3 3) ((2, (request.Read (1 ∷ 7 ∷ []) 19 4)) ∷ [])
    (known ((0, (reply.Handle (0 ∷ 7 ∷ []))) ∷ (1, (reply.Handle (1 ∷ 7 ∷ []))) ∷ (2, (status 4)) ∷ []))
    ≡ Done (outcome.Refused (error.SftpError 4 [] [])) (with_slot
    (with_slot fresh_site 0 (Buffered (file_at 1 true false 19)
    (record { len = 2; bytes = []; deferred = []; reading = None }))) 1
    (Buffered (file_at 0 false true 17) (record { len = 5; bytes = []; deferred = []; reading = None })))
buf_read_11 = refl

pub buf_read_11_left : site_after_cancel (call.BufRead 0 5) (with_slot
    (with_slot fresh_site 0 (Buffered (file_at 1 true false 19)
    (record { len = 2; bytes = []; deferred = []; reading = None }))) 1
    (Buffered (file_at 0 false true 17) (record { len = 5; bytes = []; deferred = []; reading = None })))
    (facts 26 4 2 3 3) ((2, (request.Read (1 ∷ 7 ∷ []) 19 4)) ∷ [])
    (known ((0, (reply.Handle (0 ∷ 7 ∷ []))) ∷ (1, (reply.Handle (1 ∷ 7 ∷ []))) ∷ (2, (status 4)) ∷ []))
    ≡ (with_slot (with_slot fresh_site 0 (Buffered (file_at 1 true false 19)
    (record { len = 2; bytes = []; deferred = []; reading = (Some 2) }))) 1
    (Buffered (file_at 0 false true 17) (record { len = 5; bytes = []; deferred = []; reading = None })))
buf_read_11_left = refl

pub buf_read_12 : next (call.BufRead 2 5) (with_slot (with_slot
    (with_slot (record fresh_site { directory = (47 ∷ 120 ∷ []) }) 0 (File (file_at 0 true true 0))) 1
    (Buffered (file_at 0 true true 17) (record { len = 2; bytes = []; deferred = []; reading = (Some 1) }))) 2
    (Buffered (file_at 0 true true 18446744073709551613) (record
    { len = 3; bytes = []; deferred = ((2, 6) ∷ []); reading = (Some 3) }))) (facts 42 3 2 6 1) []
    (known ((0, (reply.Handle (0 ∷ 7 ∷ []))) ∷ (3, (status 4)) ∷ []))
    ≡ Done (outcome.Refused (error.SftpError 4 [] [])) (with_slot
    (with_slot (with_slot (record fresh_site { directory = (47 ∷ 120 ∷ []) }) 0 (File (file_at 0 true true 0))) 1
    (Buffered (file_at 0 true true 17) (record { len = 2; bytes = []; deferred = []; reading = (Some 1) }))) 2
    (Buffered (file_at 0 true true 18446744073709551613) (record
    { len = 3; bytes = []; deferred = ((2, 6) ∷ []); reading = None })))
buf_read_12 = refl

pub buf_write_1 : next (call.BufWrite 1 (51 ∷ 73 ∷ 36 ∷ 160 ∷ 229 ∷ 76 ∷ 198 ∷ []))
    (with_slot (with_slot fresh_site 1 (Buffered (file_at 0 false true 11)
    (record { len = 2; bytes = []; deferred = ((1, 3) ∷ []); reading = None }))) 2
    (Buffered (file_at 0 false true 0) (record { len = 1; bytes = []; deferred = ((2, 3) ∷ []); reading = None })))
    (facts 62 5 3 3 3) [] (known ((0, (reply.Handle (0 ∷ 7 ∷ []))) ∷ (1, (status 4)) ∷ (2, (status 4)) ∷ []))
    ≡ Done (outcome.Refused (error.SftpError 4 [] [])) (with_slot
    (with_slot fresh_site 1 (Buffered (file_at 0 false true 11)
    (record { len = 2; bytes = []; deferred = []; reading = None }))) 2
    (Buffered (file_at 0 false true 0) (record { len = 1; bytes = []; deferred = ((2, 3) ∷ []); reading = None })))
buf_write_1 = refl

pub buf_write_2 : next (call.BufWrite 0 []) (with_slot (with_slot
    (with_slot fresh_site 0 (Buffered (file_at 2 true false 0)
    (record { len = 1; bytes = (234 ∷ 140 ∷ []); deferred = []; reading = None }))) 1 (File (file_at 2 true false 14)))
    2 (File (file_at 2 true true 18446744073709551614))) (facts 19 4 1 3 1) []
    (known ((0, (status 0)) ∷ (1, (reply.Handle (1 ∷ 7 ∷ []))) ∷ (2, (reply.Handle (2 ∷ 7 ∷ []))) ∷ []))
    ≡ Done (outcome.Refused (error.IOError kind.NotWritable)) (with_slot
    (with_slot (with_slot fresh_site 0 (Buffered (file_at 2 true false 0)
    (record { len = 1; bytes = (234 ∷ 140 ∷ []); deferred = []; reading = None }))) 1 (File (file_at 2 true false 14)))
    2 (File (file_at 2 true true 18446744073709551614)))
buf_write_2 = refl

pub buf_write_3 : next (call.BufWrite 1 []) (with_slot (with_slot
    (with_slot (record fresh_site { directory = (120 ∷ 47 ∷ []) }) 0 (File (file_at 1 true false 18446744073709551615)))
    1 (Buffered (file_at 1 true true 0) (record { len = 3; bytes = []; deferred = ((2, 4) ∷ []); reading = (Some 3) })))
    2 (File (file_at 0 true false 18446744073709551611))) (facts 44 1 4 4 3) []
    (known ((0, (reply.Handle (0 ∷ 7 ∷ []))) ∷ (1, (reply.Handle (1 ∷ 7 ∷ []))) ∷ (2, (status 0)) ∷
    (3, (reply.Content (194 ∷ 44 ∷ 227 ∷ 205 ∷ []))) ∷ [])) ≡ Done (outcome.Count 0)
    (with_slot (with_slot (with_slot (record fresh_site { directory = (120 ∷ 47 ∷ []) }) 0
    (File (file_at 1 true false 18446744073709551615))) 1 (Buffered (file_at 1 true true 0)
    (record { len = 3; bytes = []; deferred = ((2, 4) ∷ []); reading = (Some 3) }))) 2
    (File (file_at 0 true false 18446744073709551611)))
buf_write_3 = refl

pub buf_write_4 : next (call.BufWrite 0 (7 ∷ 245 ∷ [])) (with_slot
    (with_slot (record fresh_site { directory = (120 ∷ 47 ∷ []) }) 0
    (Buffered (file_at 1 false true 0) (record { len = 5; bytes = []; deferred = []; reading = None }))) 2
    (File (file_at 0 false true 18))) (facts 24 2 4 4 2) [] (known
    ((0, (reply.Handle (0 ∷ 7 ∷ []))) ∷ (1, (reply.Handle (1 ∷ 7 ∷ []))) ∷ []))
    ≡ Ask (request.Write (1 ∷ 7 ∷ []) 0 (7 ∷ 245 ∷ []))
buf_write_4 = refl

pub buf_write_5 : next (call.BufWrite 2 (84 ∷ 177 ∷ 44 ∷ []))
    (with_slot (with_slot (record fresh_site { directory = (120 ∷ []) }) 0 (File (file_at 1 true true 12))) 2
    (Buffered (file_at 1 true true 0) (record { len = 5; bytes = []; deferred = ((3, 6) ∷ []); reading = None })))
    (facts 63 4 3 6 3) ((4, (request.Write (1 ∷ 7 ∷ []) 0 (84 ∷ 177 ∷ 44 ∷ []))) ∷ [])
    (known ((0, (status 0)) ∷ (1, (reply.Handle (1 ∷ 7 ∷ []))) ∷ (2, (reply.Handle (2 ∷ 7 ∷ []))) ∷ (3, (status 0)) ∷
    (4, (status 0)) ∷ [])) ≡ Done (outcome.Count 3) (with_slot
    (with_slot (record fresh_site { directory = (120 ∷ []) }) 0 (File (file_at 1 true true 12))) 2
    (Buffered (file_at 1 true true 3) (record { len = 5; bytes = []; deferred = ((4, 3) ∷ []); reading = None })))
buf_write_5 = refl

pub buf_write_5_left : site_after_cancel (call.BufWrite 2 (84 ∷ 177 ∷ 44 ∷ []))
    (with_slot (with_slot (record fresh_site { directory = (120 ∷ []) }) 0 (File (file_at 1 true true 12))) 2
    (Buffered (file_at 1 true true 0) (record { len = 5; bytes = []; deferred = ((3, 6) ∷ []); reading = None })))
    (facts 63 4 3 6 3) ((4, (request.Write (1 ∷ 7 ∷ []) 0 (84 ∷ 177 ∷ 44 ∷ []))) ∷ [])
    (known ((0, (status 0)) ∷ (1, (reply.Handle (1 ∷ 7 ∷ []))) ∷ (2, (reply.Handle (2 ∷ 7 ∷ []))) ∷ (3, (status 0)) ∷
    (4, (status 0)) ∷ [])) ≡ (with_slot (with_slot (record fresh_site { directory = (120 ∷ []) }) 0
    (File (file_at 1 true true 12))) 2 (Buffered (file_at 1 true true 3)
    (record { len = 5; bytes = []; deferred = ((4, 3) ∷ []); reading = None })))
buf_write_5_left = refl
