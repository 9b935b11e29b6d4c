-- The calls of the worked run: one call reads the bytes that the other wrote.
use Rattle.std.specs.Prelude.{ℕ, List, [], ◌∷◌, codes, take, drop, Some, refl}
use Rattle.std.proofs.Common.{ap, inl, inr}
use Rattle.ssh_encoding.specs.Writing.{string, uint32}
use Rattle.sftp_model.specs.Frames.{attributes, request_body}
use Rattle.sftp_model.specs.Slots.{fresh_site}
use Rattle.sftp_model.specs.declared.outcome.Outcome.TheVariants as outcome
use Rattle.sftp_model.specs.declared.reply.Reply.TheVariants as reply
use Rattle.plan_model.specs.declared.call.Call.TheVariants as call
use Rattle.run_laws.specs.CallsAmong.{HasEnded, asked_by}
use Rattle.run_laws.specs.GrantUses.{IsCallOn, PassesBy}
use Rattle.run_laws.specs.ReadBackRows.{
  name,
  requests,
  replies,
  taken,
  answers,
  step,
  first_write,
  first_read,
  between,
  rest,
  grant_of,
  elsewhere,
  two_at_once,
  own,
  written,
  read,
  extends_more,
  mkdir_avoids,
  open_avoids,
  rename_avoids,
  write_avoids,
  close_avoids,
}

-- The writes to b are by the handle of its own grant.
write_passes : PassesBy answers grant_of elsewhere name (step 4 0 (9 ∷ []))
write_passes = (write_avoids _ _ _, λ k w. (3, (refl, (ap (λ (v : List ℕ). Some (reply.Handle v)) w, refl))))

write_passes_too : PassesBy answers grant_of elsewhere name (step 11 0 (9 ∷ []))
write_passes_too = (write_avoids _ _ _, λ k w. (3, (refl, (ap (λ (v : List ℕ). Some (reply.Handle v)) w, refl))))

pub write_is_on_name : IsCallOn answers grant_of elsewhere name written first_write between
write_is_on_name =
    record {
      among = inr (
        (mkdir_avoids, λ k w. absurd w),
        inl (
          refl,
          refl,
          refl,
          inr (
            (open_avoids, λ k w. absurd w),
            inr (
              write_passes,
              inl (refl, refl, refl, ((close_avoids _, λ k w. absurd w), ((rename_avoids, λ k w. absurd w), tt))),
            ),
          ),
        ),
      );
    }

pub read_is_on_name : IsCallOn answers grant_of elsewhere name read first_read rest
read_is_on_name =
    record {
      among = inl (
        refl,
        refl,
        refl,
        inl (
          refl,
          refl,
          refl,
          inr
              (write_passes_too, inl (refl, refl, refl, inl (refl, refl, refl, inl (refl, refl, refl, tt)))),
        ),
      );
    }

pub write_ends : HasEnded (call.FsWrite (codes "/a") (codes "hello")) fresh_site two_at_once
    (asked_by first_write ∷ written) answers outcome.Done
unfolding request_body string uint32 attributes
write_ends =
    record {
      by = answers;
      stay = λ place r e. e;
      requests = own 5 ∷ own 2 ∷ own 0 ∷ [];
      are = refl;
      so_far = record {
        asked = (
          taken 5,
          (
            taken 2,
            (taken 0, tt, refl, refl, λ place r e. absurd cc),
            refl,
            refl,
            extends_more (take 2 replies) (take 3 (drop 2 replies)),
          ),
          refl,
          refl,
          extends_more (take 5 replies) (drop 5 replies),
        );
        answered = (refl, (refl, (refl, tt)));
      };
      left = fresh_site;
      ends = refl;
    }

pub read_ends : HasEnded (call.FsRead (codes "x/../a") 9) fresh_site two_at_once (asked_by first_read ∷ read) answers
    (outcome.Bytes (codes "hello"))
unfolding request_body string uint32 attributes
read_ends =
    record {
      by = answers;
      stay = λ place r e. e;
      requests = own 14 ∷ own 13 ∷ own 12 ∷ own 10 ∷ own 9 ∷ own 8 ∷ [];
      are = refl;
      so_far = record {
        asked = (
          taken 14,
          (
            taken 12,
            (
              taken 11,
              (
                taken 9,
                (
                  taken 9,
                  (taken 8, tt, refl, refl, extends_more (take 8 replies) (take 1 (drop 8 replies))),
                  refl,
                  refl,
                  λ place r e. e,
                ),
                refl,
                refl,
                extends_more (take 9 replies) (take 2 (drop 9 replies)),
              ),
              refl,
              refl,
              extends_more (take 11 replies) (take 1 (drop 11 replies)),
            ),
            refl,
            refl,
            extends_more (take 12 replies) (take 2 (drop 12 replies)),
          ),
          refl,
          refl,
          extends_more (take 14 replies) (drop 14 replies),
        );
        answered = (refl, (refl, (refl, (refl, (refl, (refl, tt))))));
      };
      left = fresh_site;
      ends = refl;
    }
