-- A WRITE more under way.
use Rattle.std.proofs.Common.{◌≡◌, ◌≤◌, ◌<◌, ℕ, ◌+◌, ◌-◌, ◌^◌, true, false, List, [], ◌∷◌, ◌++◌, length, min, nat_le, if◌then◌else◌, refl, sym, subst, arith, Bool}
use Rattle.std.proofs.lemmas.Bool.Decides.{nat_tests}
use Rattle.std.proofs.lemmas.List.{append-nil}
use Rattle.sftp_model.specs.Numbers.{MAX_TRANSFER_LEN}
use Rattle.sftp_model.specs.Frames.{is_too_long}
use Rattle.sftp_core.specs.Core.{Core, write_of}
use Rattle.plan_state.proofs.Keeping.{submitted_holds}
use Rattle.plan_state.proofs.OthersKept.{submitted_keeps}
use Rattle.plan_state.specs.Asked.{SubmitsAsking}
use Rattle.plan_state.specs.declared.submission.Asking.TheVariants as asking
use Rattle.sftp_file.proofs.BodyLens.{write_is_short}
use Rattle.sftp_streams.specs.Uploads.{AsksWrite, MayPush, MayWrite, UploadValue, room_of, status_kind}
use Rattle.sftp_streams.proofs.PartLaws.{apart_from, keeps_parts, last_awaited, last_count, last_len}

-- the WRITE of bytes that one WRITE may carry fits a frame
pub one_is_short : (handle : List ℕ) (offset : ℕ) (bytes : List ℕ) → length handle ≤ 256
    → length bytes ≤ MAX_TRANSFER_LEN → is_too_long (write_of handle offset (bytes ∷ [])) ≡ false
one_is_short handle offset bytes le fits =
    (let same : bytes ++ [] ≡ bytes = append-nil bytes in write_is_short handle offset (bytes ++ []) le
    (subst (λ (x : List ℕ). length x ≤ 1048275) (sym same) fits))

-- where there is room, the window isn't full, and the bytes end at the greatest offset at the latest
pub has_room : (u : UploadValue) (bytes : List ℕ) → 0 < length bytes → length bytes ≤ room_of u
    → (length u.parts < u.window) × ((length bytes ≤ u.write_len) × (length bytes ≤ 2 ^ 64 - 1 - u.next))
has_room u bytes some fits = by_test (nat_le u.window (length u.parts)) refl
  where
    by_test : (b : Bool) → nat_le u.window (length u.parts) ≡ b → (length u.parts < u.window)
        × ((length bytes ≤ u.write_len) × (length bytes ≤ 2 ^ 64 - 1 - u.next))
    by_test true e =
        (let none : length bytes ≤ 0 = subst (λ (t : Bool). length bytes ≤
        (if t then 0 else min u.write_len (2 ^ 64 - 1 - u.next))) e fits in absurd (omega (arith, some, none)))
    by_test false e =
        let few : length bytes ≤ min u.write_len (2 ^ 64 - 1 - u.next) =
        subst (λ (t : Bool). length bytes ≤ (if t then 0 else min u.write_len (2 ^ 64 - 1 - u.next))) e fits in
        (grind (arith, nat_tests, e), (omega (arith, few), omega (arith, few)))

pub pushed : (core after : Core) (u new : UploadValue) (bytes : List ℕ) (t : ℕ) → MayPush core u bytes
    → SubmitsAsking core (asking.Parts u.handle u.next (bytes ∷ [])) t after
    → new ≡ record u { next = u.next + length bytes; parts = u.parts ++ record { ticket = t; len = length bytes } ∷ [] }
    → AsksWrite core u bytes after new
pushed core after u new bytes t may s now =
    let held = may.may.held in
    let room = has_room u bytes may.some may.fits in
    let many = last_count t (length bytes) u.parts in
    let sum = last_len t (length bytes) u.parts in
    let next = held.next in
    let less = room.0 in
    let ends = room.1.1 in
    let small = held.small in
    let some = may.some in
    record {
      ticket = t;
      submitted = s;
      now = now;
      may = subst (λ (x : UploadValue). MayWrite after x) (sym now) (record {
        over = may.may.over;
        held = record {
          parts = last_awaited status_kind after t (length bytes) u.parts
              (keeps_parts status_kind core after u.parts (submitted_keeps core after _ t s) held.parts)
              (apart_from status_kind core t u.parts s.free held.parts) (submitted_holds core after _ t _ s refl)
              may.some;
          next = omega (arith, sum, next);
          small = omega (arith, ends, some, small);
          few = omega (arith, many, less);
          most = held.most;
        };
      });
    }
