-- States of plans drawn at random, each with the move or the site that an independent model gives.
use Rattle.std.specs.Prelude.{◌≡◌, true, false, [], ◌∷◌, Some, None, refl}
use Rattle.sftp_model.specs.declared.request.Request.TheVariants as request
use Rattle.sftp_model.specs.declared.reply.Reply.TheVariants as reply
use Rattle.sftp_model.specs.declared.outcome.Outcome.TheVariants as outcome
use Rattle.sftp_model.specs.declared.error.Error.TheVariants as error
use Rattle.sftp_model.specs.declared.error.IoKind.TheVariants as kind
use Rattle.sftp_model.specs.declared.slot.Move.TheVariants.{Ask, Wait, Done}
use Rattle.sftp_model.specs.declared.slot.Slot.TheVariants.{File, Buffered}
use Rattle.sftp_model.specs.Slots.{fresh_site, with_slot}
use Rattle.plan_model.specs.declared.call.Call.TheVariants as call
use Rattle.plan_model.specs.CallPlans.{site_after_cancel, next}
use Rattle.sftp_model.specs.Answers.{status}
use Rattle.plan_model.specs.PlanWords.{known, facts, file_at, attributes_of}

pub set_perm_4_left : site_after_cancel (call.SetPerm 2 65535) (with_slot
    (with_slot (with_slot (record fresh_site { directory = (120 ∷ 47 ∷ []) }) 0 (File (file_at 0 true true 0))) 1
    (File (file_at 0 false true 11))) 2 (File (file_at 0 false true 18446744073709551614))) (facts 33 2 3 3 1)
    ((1, (request.Fsetstat (0 ∷ 7 ∷ []) (attributes_of None (Some 4095)))) ∷ [])
    (known ((0, (reply.Handle (0 ∷ 7 ∷ []))) ∷ (1, (status 0)) ∷ []))
    ≡ (with_slot (with_slot (with_slot (record fresh_site { directory = (120 ∷ 47 ∷ []) }) 0
    (File (file_at 0 true true 0))) 1 (File (file_at 0 false true 11))) 2
    (File (file_at 0 false true 18446744073709551614)))
set_perm_4_left = refl

pub set_perm_5 : next (call.SetPerm 2 420) (with_slot (with_slot fresh_site 0 (File (file_at 1 false true 10))) 2
    (File (file_at 1 true false 13))) (facts 26 5 4 7 2) [] (known
    ((0, (status 0)) ∷ (1, (reply.Handle (1 ∷ 7 ∷ []))) ∷ []))
    ≡ Done (outcome.Refused (error.IOError kind.NotWritable)) (with_slot
    (with_slot fresh_site 0 (File (file_at 1 false true 10))) 2 (File (file_at 1 true false 13)))
set_perm_5 = refl

pub meta_1 : next (call.Meta 2) (with_slot (with_slot (with_slot (record fresh_site { directory = (120 ∷ 47 ∷ []) }) 0
    (Buffered (file_at 0 false true 0) (record { len = 1; bytes = []; deferred = ((1, 7) ∷ []); reading = None }))) 1
    (Buffered (file_at 0 false true 7) (record { len = 1; bytes = []; deferred = ((2, 1) ∷ []); reading = None }))) 2
    (File (file_at 0 true true 18446744073709551612))) (facts 24 5 4 7 1) []
    (known ((0, (reply.Handle (0 ∷ 7 ∷ []))) ∷ (1, (status 0)) ∷ [])) ≡ Ask (request.Fstat (0 ∷ 7 ∷ []))
meta_1 = refl

pub meta_2 : next (call.Meta 1) (with_slot (with_slot fresh_site 0 (File (file_at 0 true true 8))) 1
    (File (file_at 1 true true 18446744073709551614))) (facts 61 4 2 5 4) ((2, (request.Fstat (1 ∷ 7 ∷ []))) ∷ [])
    (known ((0, (reply.Handle (0 ∷ 7 ∷ []))) ∷ (1, (reply.Handle (1 ∷ 7 ∷ []))) ∷
    (2, (reply.Attrs (attributes_of (Some 51) (Some 420)))) ∷ []))
    ≡ Done (outcome.Meta (attributes_of (Some 51) (Some 420)))
    (with_slot (with_slot fresh_site 0 (File (file_at 0 true true 8))) 1
    (File (file_at 1 true true 18446744073709551614)))
meta_2 = refl

pub meta_2_left : site_after_cancel (call.Meta 1) (with_slot (with_slot fresh_site 0 (File (file_at 0 true true 8))) 1
    (File (file_at 1 true true 18446744073709551614))) (facts 61 4 2 5 4) ((2, (request.Fstat (1 ∷ 7 ∷ []))) ∷ [])
    (known ((0, (reply.Handle (0 ∷ 7 ∷ []))) ∷ (1, (reply.Handle (1 ∷ 7 ∷ []))) ∷
    (2, (reply.Attrs (attributes_of (Some 51) (Some 420)))) ∷ []))
    ≡ (with_slot (with_slot fresh_site 0 (File (file_at 0 true true 8))) 1
    (File (file_at 1 true true 18446744073709551614)))
meta_2_left = refl

pub meta_3 : next (call.Meta 3) (with_slot (with_slot fresh_site 0
    (Buffered (file_at 1 true false 0) (record { len = 2; bytes = []; deferred = []; reading = None }))) 2
    (File (file_at 0 true false 0))) (facts 58 2 4 4 4) [] (known
    ((0, (reply.Handle (0 ∷ 7 ∷ []))) ∷ (1, (reply.Handle (1 ∷ 7 ∷ []))) ∷ []))
    ≡ Done outcome.NoFile (with_slot (with_slot fresh_site 0 (Buffered (file_at 1 true false 0)
    (record { len = 2; bytes = []; deferred = []; reading = None }))) 2 (File (file_at 0 true false 0)))
meta_3 = refl

pub meta_4 : next (call.Meta 0) (with_slot (with_slot (record fresh_site { directory = (47 ∷ 120 ∷ []) }) 0
    (File (file_at 1 false true 11))) 1 (File (file_at 1 true true 0))) (facts 58 1 4 6 2) []
    (known ((0, (reply.Handle (0 ∷ 7 ∷ []))) ∷ (1, (reply.Handle (1 ∷ 7 ∷ []))) ∷ []))
    ≡ Done (outcome.Refused (error.IOError kind.NotReadable)) (with_slot
    (with_slot (record fresh_site { directory = (47 ∷ 120 ∷ []) }) 0 (File (file_at 1 false true 11))) 1
    (File (file_at 1 true true 0)))
meta_4 = refl

pub meta_5 : next (call.Meta 0) (with_slot (with_slot (with_slot fresh_site 0
    (File (file_at 0 true true 18446744073709551614))) 1 (File (file_at 0 true false 18446744073709551612))) 2
    (File (file_at 0 true false 13))) (facts 51 3 3 7 4) ((1, (request.Fstat (0 ∷ 7 ∷ []))) ∷ [])
    (known ((0, (reply.Handle (0 ∷ 7 ∷ []))) ∷ [])) ≡ Wait 1
meta_5 = refl

pub meta_5_left : site_after_cancel (call.Meta 0) (with_slot (with_slot
    (with_slot fresh_site 0 (File (file_at 0 true true 18446744073709551614))) 1
    (File (file_at 0 true false 18446744073709551612))) 2 (File (file_at 0 true false 13))) (facts 51 3 3 7 4)
    ((1, (request.Fstat (0 ∷ 7 ∷ []))) ∷ []) (known ((0, (reply.Handle (0 ∷ 7 ∷ []))) ∷ []))
    ≡ (with_slot (with_slot (with_slot fresh_site 0 (File (file_at 0 true true 18446744073709551614))) 1
    (File (file_at 0 true false 18446744073709551612))) 2 (File (file_at 0 true false 13)))
meta_5_left = refl

pub sync_1 : next (call.Sync 0) (with_slot (with_slot (with_slot (record fresh_site { directory = (120 ∷ []) }) 0
    (File (file_at 0 true false 7))) 1 (File (file_at 0 true true 0))) 2 (File (file_at 0 true true 5)))
    (facts 27 2 2 3 1) [] (known ((0, (reply.Handle (0 ∷ 7 ∷ []))) ∷ []))
    ≡ Done (outcome.Refused (error.UnsupportedExtension (record { 0 = 4 })))
    (with_slot (with_slot (with_slot (record fresh_site { directory = (120 ∷ []) }) 0 (File (file_at 0 true false 7))) 1
    (File (file_at 0 true true 0))) 2 (File (file_at 0 true true 5)))
sync_1 = refl

pub sync_2 : next (call.Sync 0) (with_slot (with_slot (with_slot (record fresh_site { directory = (120 ∷ []) }) 0
    (File (file_at 0 false true 1))) 1 (File (file_at 0 false true 19))) 2
    (Buffered (file_at 0 true false 19) (record { len = 3; bytes = (137 ∷ 105 ∷ []); deferred = []; reading = None })))
    (facts 6 5 3 6 1) [] (known ((0, (reply.Handle (0 ∷ 7 ∷ []))) ∷ [])) ≡ Ask (request.Fsync (0 ∷ 7 ∷ []))
sync_2 = refl

pub sync_3 : next (call.Sync 0) (with_slot (with_slot (with_slot (record fresh_site { directory = (47 ∷ 120 ∷ []) }) 0
    (File (file_at 1 true false 17))) 1 (Buffered (file_at 0 true true 10)
    (record { len = 2; bytes = []; deferred = ((2, 6) ∷ []); reading = (Some 3) }))) 2 (File (file_at 0 true true 13)))
    (facts 31 3 3 6 3) [] (known ((0, (reply.Handle (0 ∷ 7 ∷ []))) ∷ (1, (reply.Handle (1 ∷ 7 ∷ []))) ∷ (2, (status 4))
    ∷ [])) ≡ Done (outcome.Refused (error.IOError kind.NotWritable))
    (with_slot (with_slot (with_slot (record fresh_site { directory = (47 ∷ 120 ∷ []) }) 0
    (File (file_at 1 true false 17))) 1 (Buffered (file_at 0 true true 10)
    (record { len = 2; bytes = []; deferred = ((2, 6) ∷ []); reading = (Some 3) }))) 2 (File (file_at 0 true true 13)))
sync_3 = refl

pub sync_4 : next (call.Sync 3) (with_slot (with_slot fresh_site 0
    (Buffered (file_at 0 false true 1) (record { len = 2; bytes = []; deferred = ((1, 4) ∷ []); reading = None }))) 2
    (Buffered (file_at 0 true true 7) (record { len = 2; bytes = []; deferred = ((2, 4) ∷ []); reading = None })))
    (facts 23 3 1 4 1) [] (known ((0, (reply.Handle (0 ∷ 7 ∷ []))) ∷ (2, (status 0)) ∷ []))
    ≡ Done outcome.NoFile (with_slot (with_slot fresh_site 0 (Buffered (file_at 0 false true 1)
    (record { len = 2; bytes = []; deferred = ((1, 4) ∷ []); reading = None }))) 2
    (Buffered (file_at 0 true true 7) (record { len = 2; bytes = []; deferred = ((2, 4) ∷ []); reading = None })))
sync_4 = refl

pub sync_5 : next (call.Sync 1) (with_slot (with_slot (with_slot fresh_site 0 (File (file_at 0 true true 0))) 1
    (File (file_at 0 false true 18446744073709551612))) 2 (File (file_at 0 true false 16))) (facts 63 4 1 3 1)
    ((1, (request.Fsync (0 ∷ 7 ∷ []))) ∷ []) (known ((0, (reply.Handle (0 ∷ 7 ∷ []))) ∷ [])) ≡ Wait 1
sync_5 = refl

pub sync_5_left : site_after_cancel (call.Sync 1) (with_slot
    (with_slot (with_slot fresh_site 0 (File (file_at 0 true true 0)))
    1 (File (file_at 0 false true 18446744073709551612))) 2 (File (file_at 0 true false 16))) (facts 63 4 1 3 1)
    ((1, (request.Fsync (0 ∷ 7 ∷ []))) ∷ []) (known ((0, (reply.Handle (0 ∷ 7 ∷ []))) ∷ []))
    ≡ (with_slot (with_slot (with_slot fresh_site 0 (File (file_at 0 true true 0))) 1
    (File (file_at 0 false true 18446744073709551612))) 2 (File (file_at 0 true false 16)))
sync_5_left = refl

pub copy_1 : next (call.Copy 0 1 2) (with_slot (with_slot (with_slot (record fresh_site { directory = (120 ∷ 47 ∷ []) })
    0 (File (file_at 0 false true 0))) 1 (File (file_at 0 false true 18))) 2 (File (file_at 0 true true 0)))
    (facts 39 2 4 7 4) [] (known ((0, (reply.Handle (0 ∷ 7 ∷ []))) ∷ []))
    ≡ Done (outcome.Refused (error.UnsupportedExtension (record { 0 = 16 })))
    (with_slot (with_slot (with_slot (record fresh_site { directory = (120 ∷ 47 ∷ []) }) 0
    (File (file_at 0 false true 0))) 1 (File (file_at 0 false true 18))) 2 (File (file_at 0 true true 0)))
copy_1 = refl

pub copy_2 : next (call.Copy 0 1 0) (with_slot (with_slot (with_slot (record fresh_site { directory = (120 ∷ []) }) 0
    (Buffered (file_at 0 true false 2) (record { len = 1; bytes = (126 ∷ 147 ∷ []); deferred = []; reading = None }))) 1
    (Buffered (file_at 1 true false 0) (record { len = 3; bytes = []; deferred = []; reading = None }))) 2
    (File (file_at 0 true false 18446744073709551611))) (facts 38 3 3 5 4) []
    (known ((0, (reply.Handle (0 ∷ 7 ∷ []))) ∷ (1, (reply.Handle (1 ∷ 7 ∷ []))) ∷ []))
    ≡ Done outcome.NoFile (with_slot (with_slot (with_slot (record fresh_site { directory = (120 ∷ []) }) 0
    (Buffered (file_at 0 true false 2) (record { len = 1; bytes = (126 ∷ 147 ∷ []); deferred = []; reading = None }))) 1
    (Buffered (file_at 1 true false 0) (record { len = 3; bytes = []; deferred = []; reading = None }))) 2
    (File (file_at 0 true false 18446744073709551611)))
copy_2 = refl

pub copy_3 : next (call.Copy 0 1 2) (with_slot (with_slot (with_slot (record fresh_site { directory = (120 ∷ []) }) 0
    (File (file_at 1 false true 18446744073709551614))) 1 (File (file_at 1 true false 9))) 2
    (Buffered (file_at 1 true true 0) (record {
      len = 1;
      bytes = (85 ∷ []);
      deferred = ((2, 6) ∷ []);
      reading =
          None;
    }))) (facts 57 1 2 6 3) [] (known ((0, (reply.Handle (0 ∷ 7 ∷ []))) ∷ (1, (reply.Handle (1 ∷ 7 ∷ []))) ∷
    (2, (status 4)) ∷ [])) ≡ Done (outcome.Refused (error.IOError kind.NotWritable))
    (with_slot (with_slot (with_slot (record fresh_site { directory = (120 ∷ []) }) 0
    (File (file_at 1 false true 18446744073709551614))) 1 (File (file_at 1 true false 9))) 2
    (Buffered (file_at 1 true true 0) (record {
      len = 1;
      bytes = (85 ∷ []);
      deferred = ((2, 6) ∷ []);
      reading =
          None;
    })))
copy_3 = refl

pub copy_4 : next (call.Copy 2 1 0) (with_slot (with_slot (with_slot fresh_site 0
    (Buffered (file_at 2 false true 18446744073709551615) (record
    { len = 1; bytes = (244 ∷ 136 ∷ 39 ∷ []); deferred = []; reading = None }))) 1 (File (file_at 2 true true 1))) 2
    (File (file_at 2 false true 5))) (facts 28 2 4 3 1) [] (known
    ((0, (status 0)) ∷ (1, (reply.Handle (1 ∷ 7 ∷ []))) ∷ (2, (reply.Handle (2 ∷ 7 ∷ []))) ∷ []))
    ≡ Done (outcome.Refused (error.IOError kind.NotReadable)) (with_slot
    (with_slot (with_slot fresh_site 0 (Buffered (file_at 2 false true 18446744073709551615)
    (record { len = 1; bytes = (244 ∷ 136 ∷ 39 ∷ []); deferred = []; reading = None }))) 1
    (File (file_at 2 true true 1))) 2 (File (file_at 2 false true 5)))
copy_4 = refl

pub copy_5 : next (call.Copy 0 1 0) (with_slot (with_slot (with_slot fresh_site 0 (File (file_at 0 true true 14))) 1
    (File (file_at 0 true true 17))) 2 (Buffered (file_at 1 false true 18446744073709551615)
    (record { len = 1; bytes = (208 ∷ []); deferred = ((2, 6) ∷ []); reading = None }))) (facts 53 3 1 6 3)
    ((3, (request.CopyData (0 ∷ 7 ∷ []) 14 0 (0 ∷ 7 ∷ []) 17)) ∷ [])
    (known ((0, (reply.Handle (0 ∷ 7 ∷ []))) ∷ (1, (reply.Handle (1 ∷ 7 ∷ []))) ∷ (2, (status 0)) ∷ [])) ≡ Wait 3
copy_5 = refl

pub copy_5_left : site_after_cancel (call.Copy 0 1 0) (with_slot (with_slot
    (with_slot fresh_site 0 (File (file_at 0 true true 14))) 1 (File (file_at 0 true true 17))) 2
    (Buffered (file_at 1 false true 18446744073709551615) (record
    { len = 1; bytes = (208 ∷ []); deferred = ((2, 6) ∷ []); reading = None }))) (facts 53 3 1 6 3)
    ((3, (request.CopyData (0 ∷ 7 ∷ []) 14 0 (0 ∷ 7 ∷ []) 17)) ∷ [])
    (known ((0, (reply.Handle (0 ∷ 7 ∷ []))) ∷ (1, (reply.Handle (1 ∷ 7 ∷ []))) ∷ (2, (status 0)) ∷ []))
    ≡ (with_slot (with_slot (with_slot fresh_site 0 (File (file_at 0 true true 14))) 1 (File (file_at 0 true true 17)))
    2 (Buffered (file_at 1 false true 18446744073709551615) (record
    { len = 1; bytes = (208 ∷ []); deferred = ((2, 6) ∷ []); reading = None })))
copy_5_left = refl

pub copy_6 : next (call.Copy 2 0 5) (with_slot (with_slot (with_slot (record fresh_site { directory = (120 ∷ []) }) 0
    (File (file_at 0 true true 18446744073709551612))) 1 (File (file_at 0 true true 13))) 2
    (File (file_at 0 true true 14))) (facts 31 4 1 5 4) [] (known ((0, (reply.Handle (0 ∷ 7 ∷ []))) ∷ []))
    ≡ Done (outcome.Refused (error.IOError kind.OffsetOverflow))
    (with_slot (with_slot (with_slot (record fresh_site { directory = (120 ∷ []) }) 0
    (File (file_at 0 true true 18446744073709551612))) 1 (File (file_at 0 true true 13))) 2
    (File (file_at 0 true true 14)))
copy_6 = refl

pub copy_7 : next (call.Copy 1 0 0) (with_slot (with_slot (with_slot (record fresh_site { directory = (47 ∷ 120 ∷ []) })
    0 (File (file_at 0 true true 10))) 1 (File (file_at 0 true false 15))) 2
    (Buffered (file_at 0 false true 3) (record { len = 5; bytes = []; deferred = ((1, 3) ∷ []); reading = None })))
    (facts 62 2 2 3 2) [] (known ((0, (reply.Handle (0 ∷ 7 ∷ []))) ∷ (1, (status 0)) ∷ []))
    ≡ Ask (request.CopyData (0 ∷ 7 ∷ []) 15 0 (0 ∷ 7 ∷ []) 10)
copy_7 = refl

pub copy_8 : next (call.Copy 2 0 4) (with_slot (with_slot (with_slot (record fresh_site { directory = (47 ∷ 120 ∷ []) })
    0 (File (file_at 0 true true 0))) 1 (File (file_at 0 true false 18446744073709551614))) 2
    (File (file_at 0 true false 0))) (facts 62 1 2 6 2) ((1, (request.CopyData (0 ∷ 7 ∷ []) 0 4 (0 ∷ 7 ∷ []) 0)) ∷ [])
    (known ((0, (reply.Handle (0 ∷ 7 ∷ []))) ∷ (1, (status 0)) ∷ []))
    ≡ Done outcome.Done (with_slot (with_slot (with_slot (record fresh_site { directory = (47 ∷ 120 ∷ []) }) 0
    (File (file_at 0 true true 4))) 1 (File (file_at 0 true false 18446744073709551614))) 2
    (File (file_at 0 true false 4)))
copy_8 = refl

pub copy_8_left : site_after_cancel (call.Copy 2 0 4) (with_slot (with_slot
    (with_slot (record fresh_site { directory = (47 ∷ 120 ∷ []) }) 0 (File (file_at 0 true true 0))) 1
    (File (file_at 0 true false 18446744073709551614))) 2 (File (file_at 0 true false 0))) (facts 62 1 2 6 2)
    ((1, (request.CopyData (0 ∷ 7 ∷ []) 0 4 (0 ∷ 7 ∷ []) 0)) ∷ [])
    (known ((0, (reply.Handle (0 ∷ 7 ∷ []))) ∷ (1, (status 0)) ∷ []))
    ≡ (with_slot (with_slot (with_slot (record fresh_site { directory = (47 ∷ 120 ∷ []) }) 0
    (File (file_at 0 true true 0))) 1 (File (file_at 0 true false 18446744073709551614))) 2
    (File (file_at 0 true false 0)))
copy_8_left = refl

pub copy_9 : next (call.Copy 2 1 6) (with_slot (with_slot (record fresh_site { directory = (120 ∷ 47 ∷ []) }) 1
    (File (file_at 2 false true 18446744073709551614))) 2 (Buffered (file_at 1 true true 11)
    (record { len = 1; bytes = (148 ∷ []); deferred = ((3, 6) ∷ []); reading = None }))) (facts 29 2 4 6 1) []
    (known ((0, (status 0)) ∷ (1, (reply.Handle (1 ∷ 7 ∷ []))) ∷ (2, (reply.Handle (2 ∷ 7 ∷ []))) ∷ (3, (status 0)) ∷
    [])) ≡ Done outcome.NoFile (with_slot (with_slot (record fresh_site { directory = (120 ∷ 47 ∷ []) }) 1
    (File (file_at 2 false true 18446744073709551614))) 2 (Buffered (file_at 1 true true 11)
    (record { len = 1; bytes = (148 ∷ []); deferred = ((3, 6) ∷ []); reading = None })))
copy_9 = refl

pub clone_1 : next (call.CloneFile 0 0) (with_slot (with_slot fresh_site 0
    (File (file_at 0 false true 18446744073709551615))) 2 (File (file_at 0 true true 8))) (facts 12 2 2 7 4) []
    (known ((0, (reply.Handle (0 ∷ 7 ∷ []))) ∷ [])) ≡ Done outcome.NoFile
    (with_slot (with_slot fresh_site 0 (File (file_at 0 false true 18446744073709551615))) 2
    (File (file_at 0 true true 8)))
clone_1 = refl

pub clone_2 : next (call.CloneFile 0 1) (with_slot (with_slot (with_slot fresh_site 0 (File (file_at 1 true true 15))) 1
    (Buffered (file_at 2 true true 11) (record {
      len = 2;
      bytes = (50 ∷ 89 ∷ 164 ∷ 255 ∷ []);
      deferred = [];
      reading =
          None;
    }))) 2 (File (file_at 1 false true 12))) (facts 62 4 4 4 3) []
    (known ((0, (status 0)) ∷ (1, (reply.Handle (1 ∷ 7 ∷ []))) ∷ (2, (reply.Handle (2 ∷ 7 ∷ []))) ∷ []))
    ≡ Done outcome.Done (with_slot (with_slot (with_slot fresh_site 0 (File (file_at 1 true true 15))) 1
    (File (file_at 1 true true 15))) 2 (File (file_at 1 false true 12)))
clone_2 = refl

pub clone_3 : next (call.CloneFile 2 0) (with_slot (with_slot fresh_site 1 (File (file_at 0 true true 0))) 2
    (Buffered (file_at 0 true true 19) (record {
      len = 2;
      bytes = (198 ∷ 118 ∷ []);
      deferred = ((1, 7) ∷ []);
      reading =
          None;
    }))) (facts 60 2 1 7 4) [] (known ((0, (reply.Handle (0 ∷ 7 ∷ []))) ∷ []))
    ≡ Done outcome.NoFile (with_slot (with_slot fresh_site 1 (File (file_at 0 true true 0))) 2
    (Buffered (file_at 0 true true 19) (record {
      len = 2;
      bytes = (198 ∷ 118 ∷ []);
      deferred = ((1, 7) ∷ []);
      reading =
          None;
    })))
clone_3 = refl

pub clone_4 : next (call.CloneFile 0 1) (with_slot (with_slot
    (with_slot (record fresh_site { directory = (47 ∷ 120 ∷ []) }) 0 (File (file_at 1 true true 18446744073709551614)))
    1 (File (file_at 1 true true 0))) 2 (File (file_at 1 true true 18446744073709551615))) (facts 14 1 3 5 4) []
    (known ((0, (status 0)) ∷ (1, (reply.Handle (1 ∷ 7 ∷ []))) ∷ []))
    ≡ Done outcome.Done (with_slot (with_slot (with_slot (record fresh_site { directory = (47 ∷ 120 ∷ []) }) 0
    (File (file_at 1 true true 18446744073709551614))) 1 (File (file_at 1 true true 18446744073709551614))) 2
    (File (file_at 1 true true 18446744073709551615)))
clone_4 = refl

pub close_1 : next (call.Close 0) (with_slot (with_slot (with_slot (record fresh_site { directory = (120 ∷ 47 ∷ []) }) 0
    (Buffered (file_at 1 true false 0) (record { len = 1; bytes = []; deferred = []; reading = None }))) 1
    (File (file_at 1 true true 11))) 2 (Buffered (file_at 1 true true 13)
    (record { len = 5; bytes = (235 ∷ []); deferred = ((2, 4) ∷ []); reading = None }))) (facts 15 5 1 4 3) []
    (known ((0, (status 0)) ∷ (1, (reply.Handle (1 ∷ 7 ∷ []))) ∷ (2, (status 0)) ∷ []))
    ≡ Done outcome.Done (with_slot (with_slot (record fresh_site { directory = (120 ∷ 47 ∷ []) }) 1
    (File (file_at 1 true true 11))) 2 (Buffered (file_at 1 true true 13)
    (record { len = 5; bytes = (235 ∷ []); deferred = ((2, 4) ∷ []); reading = None })))
close_1 = refl
