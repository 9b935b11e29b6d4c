-- A worked listing, and a worked buffered write with its flush.
use Rattle.std.specs.Prelude.{◌≡◌, ℕ, true, false, List, [], ◌∷◌, codes, drop, take, None, slice_get, refl}
use Rattle.std.proofs.Common.{arith, inl}
use Rattle.ssh_encoding.specs.Writing.{string, uint32}
use Rattle.sftp_model.specs.Frames.{attributes, request_body}
use Rattle.sftp_model.specs.Slots.{fresh_site}
use Rattle.sftp_model.specs.declared.outcome.Outcome.TheVariants as outcome
use Rattle.sftp_model.specs.declared.reply.NameEntry.{NameEntry}
use Rattle.sftp_model.specs.declared.reply.Reply.{Reply}
use Rattle.sftp_model.specs.declared.reply.Reply.TheVariants as reply
use Rattle.sftp_model.specs.declared.request.Request.TheVariants as request
use Rattle.machine_model.specs.Components.{components}
use Rattle.machine_model.specs.FileTree.{FileTree, attributes_of, bytes_of}
use Rattle.machine_model.specs.RowWords.{choice, config}
use Rattle.machine_model.specs.declared.node.Node.{Node}
use Rattle.machine_model.specs.declared.node.Node.TheVariants as node
use Rattle.machine_model.specs.declared.opened.Held.{Held}
use Rattle.machine_model.specs.declared.opened.Opened.TheVariants as opened
use Rattle.plan_model.specs.declared.call.Call.TheVariants as call
use Rattle.plan_model.specs.Moves.{Answers, Own}
use Rattle.plan_model.specs.PlanWords.{buffered, granted, handle, offering}
use Rattle.run_laws.specs.CallsAmong.{HasEnded, StandsOnDirectory, asked_by}
use Rattle.run_laws.specs.DeferredWrites.{StandAlone}
use Rattle.run_laws.specs.ReadBackRows.{extends_more, two_at_once}
use Rattle.run_laws.specs.Steps.{FeignsNoEnd, Step, after, AreServed}

-- ---- A listing of the root, in which the first NAME is cut to one entry

-- A file and a directory.
abbrev pub two_names : FileTree
two_names = record {
  names = (codes "b" ∷ [], node.Directory) ∷ (codes "a" ∷ [], node.File 0) ∷ [];
  files =
      codes "hello" ∷ [];
  handles = [];
}

abbrev entry : List ℕ → Node → NameEntry
entry filename n = record { filename = filename; longname = []; attrs = attributes_of two_names n }

abbrev pub entries : List NameEntry
entries = entry (codes "a") (node.File 0) ∷ entry (codes "b") node.Directory ∷ []

abbrev listing_replies : List Reply
listing_replies =
    reply.Handle (9 ∷ []) ∷ reply.Names (entry (codes "a") (node.File 0) ∷ []) ∷ reply.Names
    (entry (codes "b") node.Directory ∷ []) ∷ reply.Status 1 [] [] ∷ []

abbrev pub listing_answers : Answers
listing_answers place = slice_get listing_replies place

abbrev first_of_listing : ℕ → Answers
first_of_listing n place = slice_get (take n listing_replies) place

abbrev pub opendir : Step
opendir = record { place = 0; request = request.Opendir (codes "/"); choice = choice 0 0; handle = 9 ∷ [] }

abbrev readdir : ℕ → ℕ → Step
readdir place cap = record { place = place; request = request.Readdir (9 ∷ []); choice = choice 0 cap; handle = 8 ∷ [] }

abbrev pub readdirs : List Step
readdirs = readdir 1 1 ∷ readdir 2 0 ∷ readdir 3 0 ∷ []

abbrev pub listed : Own
listed = asked_by (readdir 1 1) ∷ asked_by (readdir 2 0) ∷ asked_by (readdir 3 0) ∷ []

pub listing_stands : StandsOnDirectory FeignsNoEnd (config 0) listing_answers listed two_names opendir readdirs
unfolding components
listing_stands =
    record {
      served = (
        (omega arith, refl),
        refl,
        (
          (omega arith, refl),
          refl,
          ((omega arith, refl), refl, ((omega arith, refl), refl, tt)),
        ),
      );
      stands = inl (refl, refl, λ e. cc e, inl (refl, refl, λ e. cc e, inl (refl, refl, λ e. cc e, tt)));
    }

pub listing_ends : HasEnded (call.List (codes "/") 9) fresh_site two_at_once (asked_by opendir ∷ listed) listing_answers
    (outcome.Names entries)
unfolding request_body string uint32 attributes
listing_ends =
    record {
      by = listing_answers;
      stay = λ place r e. e;
      requests = asked_by (readdir 3 0) ∷ asked_by (readdir 2 0) ∷ asked_by (readdir 1 1) ∷ asked_by opendir ∷ [];
      are = refl;
      so_far = record {
        asked = (
          first_of_listing 3,
          (
            first_of_listing 2,
            (
              first_of_listing 1,
              (first_of_listing 0, tt, refl, refl, λ place r e. absurd cc),
              refl,
              refl,
              extends_more (take 1 listing_replies) (take 1 (drop 1 listing_replies)),
            ),
            refl,
            refl,
            extends_more (take 2 listing_replies) (take 1 (drop 2 listing_replies)),
          ),
          refl,
          refl,
          extends_more (take 3 listing_replies) (drop 3 listing_replies),
        );
        answered = (refl, (refl, (refl, (refl, tt))));
      };
      left = fresh_site;
      ends = refl;
    }

-- ---- A buffered write at offset 1, whose two statuses a flush takes

abbrev pub held : Held
held = record { file = 0; readable = true; writable = true; append = false }

abbrev pub hello_open : FileTree
hello_open = record {
  names = (codes "a" ∷ [], node.File 0) ∷ [];
  files = codes "hello" ∷ [];
  handles =
      (handle, opened.File held) ∷ [];
}

abbrev pub write_answers : Answers
write_answers place = slice_get (granted ∷ reply.Status 0 [] [] ∷ reply.Status 0 [] [] ∷ []) place

-- No status had come when the write ended.
abbrev before_statuses : Answers
before_statuses place = slice_get (granted ∷ []) place

abbrev writing : ℕ → ℕ → List ℕ → Step
writing place offset content = record {
  place = place;
  request = request.Write handle offset content;
  choice =
      choice 0 0;
  handle = 8 ∷ [];
}

abbrev pub writes : List Step
writes = writing 1 1 (codes "ab") ∷ writing 2 3 (codes "c") ∷ []

abbrev pub deferred : Own
deferred = asked_by (writing 1 1 (codes "ab")) ∷ asked_by (writing 2 3 (codes "c")) ∷ []

pub writes_are_served : AreServed (config 0) write_answers hello_open writes
writes_are_served = ((omega arith, refl), refl, ((omega arith, refl), refl, tt))

pub writes_stand_alone : StandAlone (config 0) 0 handle deferred hello_open writes
writes_stand_alone = inl (refl, refl, refl, inl (refl, refl, refl, tt))

pub buffered_write_ends : HasEnded (call.BufWriteAll 0 (codes "abc")) (buffered 1 [] [] None) offering deferred
    write_answers outcome.Done
buffered_write_ends =
    record {
      by = before_statuses;
      stay = extends_more (granted ∷ []) (reply.Status 0 [] [] ∷ reply.Status 0 [] [] ∷ []);
      requests = asked_by (writing 2 3 (codes "c")) ∷ asked_by (writing 1 1 (codes "ab")) ∷ [];
      are = refl;
      so_far = record {
        asked = (
          before_statuses,
          (before_statuses, tt, refl, refl, λ place r e. e),
          refl,
          refl,
          λ place r e. e,
        );
        answered = (tt, (tt, tt));
      };
      left = buffered 4 [] ((1, 2) ∷ (2, 1) ∷ []) None;
      ends = refl;
    }

pub flush_ends : HasEnded (call.BufFlush 0) (buffered 4 [] ((1, 2) ∷ (2, 1) ∷ []) None) offering [] write_answers
    outcome.Done
flush_ends =
    record {
      by = write_answers;
      stay = λ place r e. e;
      requests = [];
      are = refl;
      so_far =
          record { asked = tt; answered = tt };
      left = buffered 4 [] [] None;
      ends = refl;
    }

pub written_in_the_file : bytes_of (after (config 0) hello_open writes) 0 ≡ codes "habco"
written_in_the_file = refl
