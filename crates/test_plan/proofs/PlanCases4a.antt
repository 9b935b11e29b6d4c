-- States of plans drawn at random, each with the move or the site that an independent model gives.
use Rattle.std.specs.Prelude.{◌≡◌, true, false, [], ◌∷◌, Some, None, pos, negsuc, refl}
use Rattle.std.specs.declared.io.traits.SeekFrom.TheVariants.{Start, End, Current}
use Rattle.ssh_encoding.specs.Writing.{uint32, uint64, string}
use Rattle.sftp_model.specs.declared.request.Request.TheVariants as request
use Rattle.sftp_model.specs.declared.reply.Reply.TheVariants as reply
use Rattle.sftp_model.specs.declared.outcome.Outcome.TheVariants as outcome
use Rattle.sftp_model.specs.declared.error.Error.TheVariants as error
use Rattle.sftp_model.specs.declared.error.IoKind.TheVariants as kind
use Rattle.sftp_model.specs.declared.slot.Move.TheVariants.{Wait, Done}
use Rattle.sftp_model.specs.Frames.{request_body, attributes}
use Rattle.sftp_model.specs.declared.slot.Slot.TheVariants.{File, Buffered}
use Rattle.sftp_model.specs.Slots.{fresh_site, with_slot}
use Rattle.plan_model.specs.declared.call.Call.TheVariants as call
use Rattle.plan_model.specs.CallPlans.{site_after_cancel, next}
use Rattle.sftp_model.specs.Answers.{status}
use Rattle.plan_model.specs.PlanWords.{known, facts, file_at, attributes_of}

pub buf_write_all_12 : next (call.BufWriteAll 2 (98 ∷ 33 ∷ 17 ∷ 103 ∷ 32 ∷ 93 ∷ 146 ∷ []))
    (with_slot (with_slot (with_slot fresh_site 0 (File (file_at 0 true true 13))) 1 (File (file_at 0 true true 0))) 2
    (Buffered (file_at 0 true true 0) (record {
      len = 2;
      bytes = (242 ∷ 163 ∷ 190 ∷ []);
      deferred = ((1, 1) ∷ []);
      reading = None;
    }))) (facts 22 4 3 3 1) ((2, (request.Write (0 ∷ 7 ∷ []) 0 (98 ∷ 33 ∷ []))) ∷ [])
    (known ((0, (reply.Handle (0 ∷ 7 ∷ []))) ∷ [])) ≡ Wait 1
buf_write_all_12 = refl

pub buf_write_all_12_left : site_after_cancel (call.BufWriteAll 2 (98 ∷ 33 ∷ 17 ∷ 103 ∷ 32 ∷ 93 ∷ 146 ∷ []))
    (with_slot (with_slot (with_slot fresh_site 0 (File (file_at 0 true true 13))) 1 (File (file_at 0 true true 0))) 2
    (Buffered (file_at 0 true true 0) (record {
      len = 2;
      bytes = (242 ∷ 163 ∷ 190 ∷ []);
      deferred = ((1, 1) ∷ []);
      reading = None;
    }))) (facts 22 4 3 3 1) ((2, (request.Write (0 ∷ 7 ∷ []) 0 (98 ∷ 33 ∷ []))) ∷ [])
    (known ((0, (reply.Handle (0 ∷ 7 ∷ []))) ∷ [])) ≡ (with_slot
    (with_slot (with_slot fresh_site 0 (File (file_at 0 true true 13))) 1 (File (file_at 0 true true 0))) 2
    (Buffered (file_at 0 true true 2) (record {
      len = 2;
      bytes = (190 ∷ []);
      deferred = ((1, 1) ∷ (2, 2) ∷ []);
      reading = None;
    })))
buf_write_all_12_left = refl

pub buf_write_all_13 : next (call.BufWriteAll 1 (123 ∷ 233 ∷ 146 ∷ 97 ∷ 50 ∷ 22 ∷ []))
    (with_slot (with_slot (with_slot (record fresh_site { directory = (120 ∷ []) }) 0
    (Buffered (file_at 0 true false 4) (record { len = 1; bytes = []; deferred = []; reading = None }))) 1
    (Buffered (file_at 0 true true 13) (record {
      len = 3;
      bytes = [];
      deferred = ((1, 3) ∷ (2, 1) ∷ []);
      reading =
          None;
    }))) 2 (Buffered (file_at 0 false true 8) (record {
      len = 3;
      bytes = (79 ∷ 233 ∷ []);
      deferred = [];
      reading =
          None;
    }))) (facts 36 5 4 4 3) ((3, (request.Write (0 ∷ 7 ∷ []) 13 (123 ∷ 233 ∷ 146 ∷ []))) ∷ [])
    (known ((0, (reply.Handle (0 ∷ 7 ∷ []))) ∷ (1, (status 0)) ∷ (2, (status 1)) ∷ (3, (status 0)) ∷ []))
    ≡ Done (outcome.Refused (error.SftpError 1 [] [])) (with_slot
    (with_slot (with_slot (record fresh_site { directory = (120 ∷ []) }) 0
    (Buffered (file_at 0 true false 4) (record { len = 1; bytes = []; deferred = []; reading = None }))) 1
    (Buffered (file_at 0 true true 16) (record { len = 3; bytes = []; deferred = ((3, 3) ∷ []); reading = None }))) 2
    (Buffered (file_at 0 false true 8) (record { len = 3; bytes = (79 ∷ 233 ∷ []); deferred = []; reading = None })))
buf_write_all_13 = refl

pub buf_write_all_13_left : site_after_cancel (call.BufWriteAll 1 (123 ∷ 233 ∷ 146 ∷ 97 ∷ 50 ∷ 22 ∷ []))
    (with_slot (with_slot (with_slot (record fresh_site { directory = (120 ∷ []) }) 0
    (Buffered (file_at 0 true false 4) (record { len = 1; bytes = []; deferred = []; reading = None }))) 1
    (Buffered (file_at 0 true true 13) (record {
      len = 3;
      bytes = [];
      deferred = ((1, 3) ∷ (2, 1) ∷ []);
      reading =
          None;
    }))) 2 (Buffered (file_at 0 false true 8) (record {
      len = 3;
      bytes = (79 ∷ 233 ∷ []);
      deferred = [];
      reading =
          None;
    }))) (facts 36 5 4 4 3) ((3, (request.Write (0 ∷ 7 ∷ []) 13 (123 ∷ 233 ∷ 146 ∷ []))) ∷ [])
    (known ((0, (reply.Handle (0 ∷ 7 ∷ []))) ∷ (1, (status 0)) ∷ (2, (status 1)) ∷ (3, (status 0)) ∷ []))
    ≡ (with_slot (with_slot (with_slot (record fresh_site { directory = (120 ∷ []) }) 0
    (Buffered (file_at 0 true false 4) (record { len = 1; bytes = []; deferred = []; reading = None }))) 1
    (Buffered (file_at 0 true true 16) (record {
      len = 3;
      bytes = [];
      deferred = ((2, 1) ∷ (3, 3) ∷ []);
      reading =
          None;
    }))) 2 (Buffered (file_at 0 false true 8) (record {
      len = 3;
      bytes = (79 ∷ 233 ∷ []);
      deferred = [];
      reading =
          None;
    })))
buf_write_all_13_left = refl

pub buf_flush_1 : next (call.BufFlush 2) (with_slot (with_slot
    (with_slot fresh_site 0 (Buffered (file_at 2 true true 9) (record
    { len = 2; bytes = []; deferred = ((3, 2) ∷ []); reading = None }))) 1 (File (file_at 2 true false 0))) 2
    (Buffered (file_at 1 true true 8) (record { len = 3; bytes = []; deferred = ((4, 3) ∷ []); reading = (Some 5) })))
    (facts 37 2 2 3 4) [] (known ((0, (status 0)) ∷ (1, (reply.Handle (1 ∷ 7 ∷ []))) ∷ (2, (reply.Handle (2 ∷ 7 ∷ [])))
    ∷ [])) ≡ Wait 4
buf_flush_1 = refl

pub buf_flush_1_left : site_after_cancel (call.BufFlush 2) (with_slot
    (with_slot (with_slot fresh_site 0 (Buffered (file_at 2 true true 9)
    (record { len = 2; bytes = []; deferred = ((3, 2) ∷ []); reading = None }))) 1 (File (file_at 2 true false 0))) 2
    (Buffered (file_at 1 true true 8) (record { len = 3; bytes = []; deferred = ((4, 3) ∷ []); reading = (Some 5) })))
    (facts 37 2 2 3 4) [] (known ((0, (status 0)) ∷ (1, (reply.Handle (1 ∷ 7 ∷ []))) ∷ (2, (reply.Handle (2 ∷ 7 ∷ [])))
    ∷ [])) ≡ (with_slot (with_slot (with_slot fresh_site 0 (Buffered (file_at 2 true true 9)
    (record { len = 2; bytes = []; deferred = ((3, 2) ∷ []); reading = None }))) 1 (File (file_at 2 true false 0))) 2
    (Buffered (file_at 1 true true 8) (record { len = 3; bytes = []; deferred = ((4, 3) ∷ []); reading = (Some 5) })))
buf_flush_1_left = refl

pub buf_flush_2 : next (call.BufFlush 0) (with_slot (with_slot
    (with_slot fresh_site 0 (Buffered (file_at 1 true true 14)
    (record { len = 4; bytes = []; deferred = ((2, 7) ∷ []); reading = None }))) 1 (File (file_at 0 true true 10))) 2
    (Buffered (file_at 1 true true 18446744073709551615) (record
    { len = 4; bytes = (79 ∷ 233 ∷ 38 ∷ []); deferred = ((3, 7) ∷ []); reading = None }))) (facts 31 1 1 7 4) []
    (known ((0, (reply.Handle (0 ∷ 7 ∷ []))) ∷ (1, (reply.Handle (1 ∷ 7 ∷ []))) ∷ (2, (status 0)) ∷ []))
    ≡ Done outcome.Done (with_slot (with_slot (with_slot fresh_site 0
    (Buffered (file_at 1 true true 14) (record { len = 4; bytes = []; deferred = []; reading = None }))) 1
    (File (file_at 0 true true 10))) 2 (Buffered (file_at 1 true true 18446744073709551615)
    (record { len = 4; bytes = (79 ∷ 233 ∷ 38 ∷ []); deferred = ((3, 7) ∷ []); reading = None })))
buf_flush_2 = refl

pub buf_flush_3 : next (call.BufFlush 1) (with_slot (with_slot
    (with_slot (record fresh_site { directory = (47 ∷ 120 ∷ []) }) 0
    (Buffered (file_at 1 true false 4) (record { len = 5; bytes = []; deferred = []; reading = (Some 2) }))) 1
    (File (file_at 1 true true 18446744073709551614))) 2 (Buffered (file_at 1 true true 0)
    (record { len = 3; bytes = []; deferred = ((3, 3) ∷ (4, 4) ∷ []); reading = (Some 5) }))) (facts 63 3 4 7 2) []
    (known ((0, (reply.Handle (0 ∷ 7 ∷ []))) ∷ (1, (reply.Handle (1 ∷ 7 ∷ []))) ∷ (2, (reply.Content (242 ∷ 139 ∷ [])))
    ∷ (5, (reply.Content (116 ∷ 179 ∷ []))) ∷ [])) ≡ Done outcome.NoFile
    (with_slot (with_slot (with_slot (record fresh_site { directory = (47 ∷ 120 ∷ []) }) 0
    (Buffered (file_at 1 true false 4) (record { len = 5; bytes = []; deferred = []; reading = (Some 2) }))) 1
    (File (file_at 1 true true 18446744073709551614))) 2 (Buffered (file_at 1 true true 0)
    (record { len = 3; bytes = []; deferred = ((3, 3) ∷ (4, 4) ∷ []); reading = (Some 5) })))
buf_flush_3 = refl

pub buf_flush_4 : next (call.BufFlush 1) (with_slot (with_slot
    (with_slot (record fresh_site { directory = (47 ∷ 120 ∷ []) }) 0
    (Buffered (file_at 0 true true 18446744073709551615) (record
    { len = 2; bytes = []; deferred = []; reading = (Some 2) }))) 1
    (Buffered (file_at 1 true false 0) (record {
      len = 2;
      bytes = (204 ∷ 73 ∷ 132 ∷ []);
      deferred = [];
      reading =
          None;
    }))) 2 (Buffered (file_at 0 true false 3) (record { len = 2; bytes = []; deferred = []; reading = None })))
    (facts 63 3 4 6 4) [] (known ((0, (reply.Handle (0 ∷ 7 ∷ []))) ∷ (1, (reply.Handle (1 ∷ 7 ∷ []))) ∷ (2, (status 1))
    ∷ [])) ≡ Done (outcome.Refused (error.IOError kind.NotWritable))
    (with_slot (with_slot (with_slot (record fresh_site { directory = (47 ∷ 120 ∷ []) }) 0
    (Buffered (file_at 0 true true 18446744073709551615) (record
    { len = 2; bytes = []; deferred = []; reading = (Some 2) }))) 1
    (Buffered (file_at 1 true false 0) (record {
      len = 2;
      bytes = (204 ∷ 73 ∷ 132 ∷ []);
      deferred = [];
      reading =
          None;
    }))) 2 (Buffered (file_at 0 true false 3) (record { len = 2; bytes = []; deferred = []; reading = None })))
buf_flush_4 = refl

pub buf_flush_5 : next (call.BufFlush 2) (with_slot (with_slot
    (with_slot (record fresh_site { directory = (120 ∷ []) }) 0
    (Buffered (file_at 0 false true 0) (record {
      len = 4;
      bytes = [];
      deferred = ((1, 1) ∷ (2, 1) ∷ (3, 1) ∷ []);
      reading = None;
    }))) 1 (Buffered (file_at 0 true true 14) (record
    { len = 5; bytes = (33 ∷ 225 ∷ 182 ∷ []); deferred = []; reading = None }))) 2
    (Buffered (file_at 0 true true 14) (record {
      len = 4;
      bytes = (77 ∷ 181 ∷ 251 ∷ []);
      deferred =
          ((4, 1) ∷ (5, 1) ∷ (6, 1) ∷ []);
      reading = None;
    }))) (facts 14 4 1 3 2) []
    (known ((0, (reply.Handle (0 ∷ 7 ∷ []))) ∷ (1, (status 0)) ∷ (2, (status 1)) ∷ (4, (status 0)) ∷ (5, (status 0)) ∷
    (6, (status 4)) ∷ [])) ≡ Done (outcome.Refused (error.SftpError 4 [] []))
    (with_slot (with_slot (with_slot (record fresh_site { directory = (120 ∷ []) }) 0
    (Buffered (file_at 0 false true 0) (record {
      len = 4;
      bytes = [];
      deferred = ((1, 1) ∷ (2, 1) ∷ (3, 1) ∷ []);
      reading = None;
    }))) 1 (Buffered (file_at 0 true true 14) (record
    { len = 5; bytes = (33 ∷ 225 ∷ 182 ∷ []); deferred = []; reading = None }))) 2
    (Buffered (file_at 0 true true 14) (record {
      len = 4;
      bytes = (77 ∷ 181 ∷ 251 ∷ []);
      deferred = [];
      reading =
          None;
    })))
buf_flush_5 = refl

pub buf_flush_6 : next (call.BufFlush 3) (with_slot (with_slot
    (with_slot (record fresh_site { directory = (120 ∷ 47 ∷ []) }) 0 (File (file_at 2 true false 7))) 1
    (Buffered (file_at 2 true true 18446744073709551615) (record
    { len = 5; bytes = []; deferred = ((3, 7) ∷ []); reading = None }))) 2
    (Buffered (file_at 2 true false 1) (record {
      len = 3;
      bytes = (35 ∷ 139 ∷ 86 ∷ 83 ∷ []);
      deferred = [];
      reading =
          None;
    }))) (facts 31 5 3 7 4) [] (known ((0, (status 0)) ∷ (1, (reply.Handle (1 ∷ 7 ∷ []))) ∷
    (2, (reply.Handle (2 ∷ 7 ∷ []))) ∷ (3, (status 4)) ∷ [])) ≡ Done outcome.NoFile
    (with_slot (with_slot (with_slot (record fresh_site { directory = (120 ∷ 47 ∷ []) }) 0
    (File (file_at 2 true false 7))) 1 (Buffered (file_at 2 true true 18446744073709551615)
    (record { len = 5; bytes = []; deferred = ((3, 7) ∷ []); reading = None }))) 2
    (Buffered (file_at 2 true false 1) (record {
      len = 3;
      bytes = (35 ∷ 139 ∷ 86 ∷ 83 ∷ []);
      deferred = [];
      reading =
          None;
    })))
buf_flush_6 = refl

pub buf_flush_7 : next (call.BufFlush 1) (with_slot (with_slot
    (with_slot fresh_site 0 (File (file_at 0 true true 18446744073709551615))) 1
    (Buffered (file_at 0 true false 18) (record { len = 2; bytes = []; deferred = []; reading = (Some 1) }))) 2
    (File (file_at 0 true false 15))) (facts 47 1 2 7 1) [] (known
    ((0, (reply.Handle (0 ∷ 7 ∷ []))) ∷ (1, (reply.Content (156 ∷ 126 ∷ 92 ∷ 154 ∷ []))) ∷ []))
    ≡ Done (outcome.Refused (error.IOError kind.NotWritable)) (with_slot
    (with_slot (with_slot fresh_site 0 (File (file_at 0 true true 18446744073709551615))) 1
    (Buffered (file_at 0 true false 18) (record { len = 2; bytes = []; deferred = []; reading = (Some 1) }))) 2
    (File (file_at 0 true false 15)))
buf_flush_7 = refl

pub buf_flush_8 : next (call.BufFlush 0) (with_slot (record fresh_site { directory = (120 ∷ []) }) 0
    (Buffered (file_at 0 true true 4) (record { len = 3; bytes = []; deferred = []; reading = (Some 2) })))
    (facts 11 3 3 4 2) [] (known ((0, (reply.Handle (0 ∷ 7 ∷ []))) ∷ (1, (reply.Handle (1 ∷ 7 ∷ []))) ∷ []))
    ≡ Done outcome.Done (with_slot (record fresh_site { directory = (120 ∷ []) }) 0
    (Buffered (file_at 0 true true 4) (record { len = 3; bytes = []; deferred = []; reading = (Some 2) })))
buf_flush_8 = refl

pub buf_seek_1 : next (call.BufSeek 0 (Current (pos 2))) (with_slot
    (with_slot (with_slot fresh_site 0 (Buffered (file_at 0 true true 18446744073709551611)
    (record { len = 1; bytes = (177 ∷ 146 ∷ []); deferred = []; reading = None }))) 1 (File (file_at 0 false true 0))) 2
    (File (file_at 0 true false 18))) (facts 27 4 4 7 1) [] (known ((0, (reply.Handle (0 ∷ 7 ∷ []))) ∷ []))
    ≡ Done (outcome.Count 18446744073709551613) (with_slot (with_slot
    (with_slot fresh_site 0 (Buffered (file_at 0 true true 18446744073709551613)
    (record { len = 1; bytes = []; deferred = []; reading = None }))) 1 (File (file_at 0 false true 0))) 2
    (File (file_at 0 true false 18)))
buf_seek_1 = refl

pub buf_seek_2 : next (call.BufSeek 2 (Start 18446744073709551615))
    (with_slot (with_slot (with_slot (record fresh_site { directory = (120 ∷ []) }) 0 (File (file_at 0 true false 14)))
    1 (Buffered (file_at 0 false true 3) (record {
      len = 1;
      bytes = (197 ∷ 229 ∷ 92 ∷ []);
      deferred = [];
      reading =
          None;
    }))) 2 (File (file_at 0 false true 0))) (facts 31 3 3 7 4) [] (known ((0, (reply.Handle (0 ∷ 7 ∷ []))) ∷ []))
    ≡ Done outcome.NoFile (with_slot (with_slot (with_slot (record fresh_site { directory = (120 ∷ []) }) 0
    (File (file_at 0 true false 14))) 1 (Buffered (file_at 0 false true 3)
    (record { len = 1; bytes = (197 ∷ 229 ∷ 92 ∷ []); deferred = []; reading = None }))) 2
    (File (file_at 0 false true 0)))
buf_seek_2 = refl

pub buf_seek_3 : next (call.BufSeek 2 (End (pos 0))) (with_slot
    (with_slot (with_slot (record fresh_site { directory = (47 ∷ 120 ∷ []) }) 0
    (Buffered (file_at 0 true true 0) (record { len = 4; bytes = []; deferred = ((1, 4) ∷ []); reading = None }))) 1
    (Buffered (file_at 0 true true 5) (record {
      len = 1;
      bytes = [];
      deferred = ((2, 3) ∷ (3, 1) ∷ []);
      reading =
          (Some 4);
    }))) 2 (Buffered (file_at 0 true true 0) (record {
      len = 4;
      bytes = [];
      deferred = ((5, 4) ∷ []);
      reading =
          (Some 6);
    }))) (facts 4 5 3 4 1) [] (known ((0, (reply.Handle (0 ∷ 7 ∷ []))) ∷ (1, (status 0)) ∷
    (4, (reply.Content (192 ∷ 207 ∷ 156 ∷ 73 ∷ []))) ∷ (5, (status 0)) ∷ []))
    ≡ Done (outcome.Refused (error.IOError kind.SeekFromEnd)) (with_slot
    (with_slot (with_slot (record fresh_site { directory = (47 ∷ 120 ∷ []) }) 0
    (Buffered (file_at 0 true true 0) (record { len = 4; bytes = []; deferred = ((1, 4) ∷ []); reading = None }))) 1
    (Buffered (file_at 0 true true 5) (record {
      len = 1;
      bytes = [];
      deferred = ((2, 3) ∷ (3, 1) ∷ []);
      reading =
          (Some 4);
    }))) 2 (Buffered (file_at 0 true true 0) (record {
      len = 4;
      bytes = [];
      deferred = ((5, 4) ∷ []);
      reading =
          (Some 6);
    })))
buf_seek_3 = refl

pub buf_seek_4 : next (call.BufSeek 0 (Current (negsuc 4))) (with_slot
    (with_slot (with_slot (record fresh_site { directory = (47 ∷ 120 ∷ []) }) 0
    (Buffered (file_at 0 true true 0) (record { len = 5; bytes = []; deferred = ((1, 3) ∷ []); reading = None }))) 1
    (Buffered (file_at 0 false true 18446744073709551612) (record
    { len = 5; bytes = (241 ∷ []); deferred = ((2, 2) ∷ []); reading = None }))) 2 (File (file_at 0 false true 0)))
    (facts 51 2 3 4 2) [] (known ((0, (reply.Handle (0 ∷ 7 ∷ []))) ∷ (1, (status 0)) ∷ (2, (status 0)) ∷ []))
    ≡ Done (outcome.Refused (error.IOError kind.SeekUnderflow))
    (with_slot (with_slot (with_slot (record fresh_site { directory = (47 ∷ 120 ∷ []) }) 0
    (Buffered (file_at 0 true true 0) (record { len = 5; bytes = []; deferred = ((1, 3) ∷ []); reading = None }))) 1
    (Buffered (file_at 0 false true 18446744073709551612) (record
    { len = 5; bytes = (241 ∷ []); deferred = ((2, 2) ∷ []); reading = None }))) 2 (File (file_at 0 false true 0)))
buf_seek_4 = refl

pub buf_seek_5 : next (call.BufSeek 0 (Current (pos 9223372036854775807)))
    (with_slot (with_slot fresh_site 0 (Buffered (file_at 1 true false 18446744073709551615)
    (record { len = 5; bytes = []; deferred = []; reading = (Some 3) }))) 1 (File (file_at 2 false true 8)))
    (facts 36 2 4 4 3) [] (known ((0, (status 0)) ∷ (1, (reply.Handle (1 ∷ 7 ∷ []))) ∷ (2, (reply.Handle (2 ∷ 7 ∷ [])))
    ∷ [])) ≡ Done (outcome.Refused (error.IOError kind.SeekOverflow))
    (with_slot (with_slot fresh_site 0 (Buffered (file_at 1 true false 18446744073709551615)
    (record { len = 5; bytes = []; deferred = []; reading = (Some 3) }))) 1 (File (file_at 2 false true 8)))
buf_seek_5 = refl

pub buf_seek_6 : next (call.BufSeek 0 (Current (pos 5))) (with_slot fresh_site 1
    (File (file_at 0 false true 18446744073709551614))) (facts 1 1 4 4 2) []
    (known ((0, (reply.Handle (0 ∷ 7 ∷ []))) ∷ (1, (reply.Handle (1 ∷ 7 ∷ []))) ∷ []))
    ≡ Done outcome.NoFile (with_slot fresh_site 1 (File (file_at 0 false true 18446744073709551614)))
buf_seek_6 = refl

pub buf_seek_7 : next (call.BufSeek 0 (End (pos 0))) (with_slot
    (with_slot (record fresh_site { directory = (120 ∷ []) }) 0
    (Buffered (file_at 1 true false 4) (record {
      len = 4;
      bytes = (255 ∷ 236 ∷ 64 ∷ []);
      deferred = [];
      reading =
          None;
    }))) 1 (Buffered (file_at 1 true false 10) (record {
      len = 3;
      bytes = [];
      deferred = [];
      reading =
          (Some 2);
    }))) (facts 15 4 1 3 4) [] (known ((0, (status 0)) ∷ (1, (reply.Handle (1 ∷ 7 ∷ []))) ∷ []))
    ≡ Done (outcome.Refused (error.IOError kind.SeekFromEnd)) (with_slot
    (with_slot (record fresh_site { directory = (120 ∷ []) }) 0
    (Buffered (file_at 1 true false 4) (record {
      len = 4;
      bytes = (255 ∷ 236 ∷ 64 ∷ []);
      deferred = [];
      reading =
          None;
    }))) 1 (Buffered (file_at 1 true false 10) (record {
      len = 3;
      bytes = [];
      deferred = [];
      reading =
          (Some 2);
    })))
buf_seek_7 = refl

pub buf_seek_8 : next (call.BufSeek 0 (Current (pos 3))) (with_slot
    (with_slot (with_slot (record fresh_site { directory = (120 ∷ 47 ∷ []) }) 0
    (Buffered (file_at 0 true true 0) (record {
      len = 5;
      bytes = (59 ∷ []);
      deferred = ((2, 1) ∷ (3, 1) ∷ []);
      reading =
          None;
    }))) 1 (File (file_at 0 true true 18446744073709551612))) 2
    (Buffered (file_at 0 false true 18446744073709551611) (record
    { len = 4; bytes = []; deferred = ((4, 1) ∷ (5, 6) ∷ []); reading = None }))) (facts 29 2 1 7 3) []
    (known ((0, (reply.Handle (0 ∷ 7 ∷ []))) ∷ (1, (reply.Handle (1 ∷ 7 ∷ []))) ∷ (2, (status 0)) ∷ (3, (status 4)) ∷
    (5, (status 0)) ∷ [])) ≡ Done (outcome.Count 3) (with_slot
    (with_slot (with_slot (record fresh_site { directory = (120 ∷ 47 ∷ []) }) 0
    (Buffered (file_at 0 true true 3) (record {
      len = 5;
      bytes = [];
      deferred = ((2, 1) ∷ (3, 1) ∷ []);
      reading =
          None;
    }))) 1 (File (file_at 0 true true 18446744073709551612))) 2
    (Buffered (file_at 0 false true 18446744073709551611) (record
    { len = 4; bytes = []; deferred = ((4, 1) ∷ (5, 6) ∷ []); reading = None })))
buf_seek_8 = refl

pub buf_seek_9 : next (call.BufSeek 0 (End (pos 0))) (with_slot
    (with_slot (with_slot (record fresh_site { directory = (120 ∷ 47 ∷ []) }) 0
    (Buffered (file_at 0 true false 18446744073709551613) (record
    { len = 2; bytes = []; deferred = []; reading = None }))) 1
    (Buffered (file_at 0 true true 0) (record { len = 4; bytes = []; deferred = []; reading = None }))) 2
    (File (file_at 0 true true 18446744073709551614))) (facts 59 3 1 6 3) []
    (known ((0, (reply.Handle (0 ∷ 7 ∷ []))) ∷ [])) ≡ Done (outcome.Refused (error.IOError kind.SeekFromEnd))
    (with_slot (with_slot (with_slot (record fresh_site { directory = (120 ∷ 47 ∷ []) }) 0
    (Buffered (file_at 0 true false 18446744073709551613) (record
    { len = 2; bytes = []; deferred = []; reading = None }))) 1
    (Buffered (file_at 0 true true 0) (record { len = 4; bytes = []; deferred = []; reading = None }))) 2
    (File (file_at 0 true true 18446744073709551614)))
buf_seek_9 = refl

pub fs_read_1 : next (call.FsRead (47 ∷ 97 ∷ []) 4) (with_slot
    (with_slot (with_slot (record fresh_site { directory = (120 ∷ []) }) 0
    (Buffered (file_at 1 true true 18446744073709551611) (record
    { len = 2; bytes = (108 ∷ 220 ∷ 201 ∷ []); deferred = ((2, 1) ∷ (3, 6) ∷ []); reading = None }))) 1
    (Buffered (file_at 1 false true 10) (record { len = 4; bytes = []; deferred = []; reading = None }))) 2
    (Buffered (file_at 1 false true 18446744073709551612) (record
    { len = 4; bytes = []; deferred = ((4, 1) ∷ (5, 1) ∷ (6, 5) ∷ []); reading = None }))) (facts 42 5 1 7 1)
    ((7, (request.OpenFile (47 ∷ 97 ∷ []) (record { 0 = 1 }) (attributes_of None None))) ∷
    (8, (request.Read (225 ∷ 114 ∷ []) 0 5)) ∷ (10, (request.Read (225 ∷ 114 ∷ []) 3 5)) ∷
    (12, (request.Read (225 ∷ 114 ∷ []) 4 5)) ∷ (14, (request.Read (225 ∷ 114 ∷ []) 9 5)) ∷ [])
    (known ((0, (status 0)) ∷ (1, (reply.Handle (1 ∷ 7 ∷ []))) ∷ (2, (status 0)) ∷ (4, (status 4)) ∷ (5, (status 0)) ∷
    (6, (status 0)) ∷ (7, (reply.Handle (225 ∷ 114 ∷ []))) ∷ (8, (reply.Content (82 ∷ 103 ∷ 109 ∷ []))) ∷
    (10, (reply.Content (166 ∷ []))) ∷ (12, (reply.Content (204 ∷ 32 ∷ 18 ∷ 92 ∷ 227 ∷ []))) ∷ [])) ≡ Wait 14
unfolding request_body string uint32 uint64 attributes
fs_read_1 = refl

pub fs_read_1_left : site_after_cancel (call.FsRead (47 ∷ 97 ∷ []) 4)
    (with_slot (with_slot (with_slot (record fresh_site { directory = (120 ∷ []) }) 0
    (Buffered (file_at 1 true true 18446744073709551611) (record
    { len = 2; bytes = (108 ∷ 220 ∷ 201 ∷ []); deferred = ((2, 1) ∷ (3, 6) ∷ []); reading = None }))) 1
    (Buffered (file_at 1 false true 10) (record { len = 4; bytes = []; deferred = []; reading = None }))) 2
    (Buffered (file_at 1 false true 18446744073709551612) (record
    { len = 4; bytes = []; deferred = ((4, 1) ∷ (5, 1) ∷ (6, 5) ∷ []); reading = None }))) (facts 42 5 1 7 1)
    ((7, (request.OpenFile (47 ∷ 97 ∷ []) (record { 0 = 1 }) (attributes_of None None))) ∷
    (8, (request.Read (225 ∷ 114 ∷ []) 0 5)) ∷ (10, (request.Read (225 ∷ 114 ∷ []) 3 5)) ∷
    (12, (request.Read (225 ∷ 114 ∷ []) 4 5)) ∷ (14, (request.Read (225 ∷ 114 ∷ []) 9 5)) ∷ [])
    (known ((0, (status 0)) ∷ (1, (reply.Handle (1 ∷ 7 ∷ []))) ∷ (2, (status 0)) ∷ (4, (status 4)) ∷ (5, (status 0)) ∷
    (6, (status 0)) ∷ (7, (reply.Handle (225 ∷ 114 ∷ []))) ∷ (8, (reply.Content (82 ∷ 103 ∷ 109 ∷ []))) ∷
    (10, (reply.Content (166 ∷ []))) ∷ (12, (reply.Content (204 ∷ 32 ∷ 18 ∷ 92 ∷ 227 ∷ []))) ∷ []))
    ≡ (with_slot (with_slot (with_slot (record fresh_site { directory = (120 ∷ []) }) 0
    (Buffered (file_at 1 true true 18446744073709551611) (record
    { len = 2; bytes = (108 ∷ 220 ∷ 201 ∷ []); deferred = ((2, 1) ∷ (3, 6) ∷ []); reading = None }))) 1
    (Buffered (file_at 1 false true 10) (record { len = 4; bytes = []; deferred = []; reading = None }))) 2
    (Buffered (file_at 1 false true 18446744073709551612) (record
    { len = 4; bytes = []; deferred = ((4, 1) ∷ (5, 1) ∷ (6, 5) ∷ []); reading = None })))
fs_read_1_left = refl
