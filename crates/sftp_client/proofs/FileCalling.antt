-- What calls on files that are started and run in one leave to others.
use Rattle.std.proofs.Common.{◌≡◌, ℕ, zero, suc, List, [], false, ap, refl, sym, subst, inl, inr}
use Rattle.std.specs.Prelude.{Some, Result, Ok, Err}
use Rattle.bytes.specs.Filled.{Filled}
use Rattle.sftp_model.specs.declared.error.Error.{Error}
use Rattle.sftp_model.specs.declared.reply.Reply.TheVariants as reply
use Rattle.sftp_model.specs.declared.slot.Facts.{Facts}
use Rattle.sftp_model.specs.declared.slot.FileAt.{FileAt}
use Rattle.sftp_model.specs.declared.slot.Site.{Site}
use Rattle.plan_model.specs.Moves.{Answers, Plan}
use Rattle.sftp_core.specs.Core.{Core, IsGrant}
use Rattle.sftp_core.specs.Grant.{GrantValue}
use Rattle.sftp_link.specs.Views.{LinkView}
use Rattle.plan_state.specs.Calls.{CallValue}
use Rattle.plan_state.specs.Runners.{Meaning}
use Rattle.plan_state.proofs.OthersKept.{grant_kept}
use Rattle.plan_state.proofs.Sparing.{spares_both}
use Rattle.sftp_file.specs.Copies.{CopyStarts, CopyValue, copy_meaning}
use Rattle.sftp_file.specs.Files.{FilePlan, FileValue, StartsOnFile}
use Rattle.sftp_fs.specs.WholeWrites.{FsWriteValue, IsNoneOfWrite, WriteOpens, WritesFrom, is_over as write_over}
use Rattle.sftp_fs.specs.declared.fs_write.Writing.{Writing}
use Rattle.sftp_fs.specs.declared.fs_write.Writing.TheVariants as writing
use Rattle.sftp_fs_read.specs.WholeReads.{FsReadValue, IsNoneOfRead, ReadOpens, ReadsFrom, is_over as read_over}
use Rattle.sftp_fs_read.specs.declared.fs_read.Whole.{Whole}
use Rattle.sftp_fs_read.specs.declared.fs_read.Whole.TheVariants as whole
use Rattle.sftp_client.specs.Calls.{CallsOnFile, CopiesFile, CopyStartsOr, IfIdLeft, IsCallable, IsUnstarted, IsUsable, OnCore, ReadsPath, StartsOr, WritesPath}
use Rattle.sftp_client.specs.Sessions.{SftpValue, with_core}
use Rattle.sftp_client.specs.Waits.{HasFinishedOn}
use Rattle.sftp_client.specs.WholeWaits.{HasCopied, HasFinishedRead}
use Rattle.sftp_client.specs.WriteWaits.{HasFinishedWrite}
use Rattle.sftp_client.proofs.Calling.{faults_since, finish_all, finish_faults, no_id, ran, refused, started_apart, unstarted}
use Rattle.sftp_client.proofs.KeptFaults.{read_fault, write_fault}
use Rattle.sftp_client.proofs.HandleCalling.{held_inside, usable_inside}

-- ---- calls on a file

pub file_no_id : {W M V L S : Type 0} (s : Meaning W M V) (w : W) (at : M → FileAt) (plan : FilePlan)
    (state : L → LinkView S) (file : FileValue) (old : SftpValue L) (e : Error) → IsUnstarted old old e
    → IsGrant old.core file.grant → IsCallable state old → CallsOnFile s w at plan state file file old old (Err e)
file_no_id s w at plan state file old e h held callable =
    record {
      calls = unstarted (StartsOr s w plan file file)
          (λ started new call result. HasFinishedOn s at state started new call file file result) state old e
          callable (inl h, refl);
      held = held;
    }

file_refused_at : {W M V L S : Type 0} (s : Meaning W M V) (w : W) (at : M → FileAt) (plan : FilePlan)
    (state : L → LinkView S) (before after : FileValue) (old new : SftpValue L) (e : Error) → after ≡ before
    → StartsOnFile s w plan before old.core new.core (Err e) → new ≡ with_core old new.core
    → IsGrant old.core before.grant → IsUsable state old
    → CallsOnFile s w at plan state before after old new (Err e)
file_refused_at s w at plan state before after old new e same h left held usable =
    record {
      calls = refused (StartsOr s w plan before after)
          (λ started last call result. HasFinishedOn s at state started last call before after result) state old new e
          usable (inr (h, left), same) h.keeps (ap (λ (x : SftpValue _). x.link) left);
      held = subst (λ (f : FileValue). IsGrant new.core f.grant) (sym same)
          (grant_kept old.core new.core before.grant h.keeps.grants held);
    }

file_called_at : {W M V L S : Type 0} (s : Meaning W M V) (w : W) (at : M → FileAt) (plan : FilePlan)
    (state : L → LinkView S) (before after : FileValue) (old started new : SftpValue L) (call : CallValue M)
    (result : Result V Error) → IsUsable state old → IsGrant old.core before.grant
    → StartsOnFile s w plan before old.core started.core (Ok call) → started ≡ with_core old started.core
    → HasFinishedOn s at state started new call before after result
    → CallsOnFile s w at plan state before after old new result
file_called_at s w at plan state before after old started new call result usable held starts left h =
    let apart = started_apart s w _ (λ place. Some (reply.Handle before.grant.handle)) old.core started.core call
    (starts.starts (λ place. Some (reply.Handle before.grant.handle)) refl) starts.keeps in
    let calls = ran (StartsOr s w plan before after)
    (λ first last begun done. HasFinishedOn s at state first last begun before after done) state old started new call
    result usable
    ((starts, left), tt) h
    (finish_all s state old started new call result apart h.finished)
    (finish_faults s state old started new call result (ap (λ (x : SftpValue _). x.link) left) h.finished) in
    record {
      calls = calls;
      held = subst (λ (g : GrantValue). IsGrant new.core g) (sym (ap (λ (f : FileValue). f.grant) h.moved.rest))
          (grant_kept old.core new.core before.grant calls.keeps.grants held);
    }

-- ---- copies

pub copy_no_id : {L S : Type 0} (n : ℕ) (state : L → LinkView S) (f g : FileValue) (old : SftpValue L) (e : Error)
    → IsUnstarted old old e → IsGrant old.core f.grant → IsGrant old.core g.grant → IsCallable state old
    → CopiesFile n state f f g g old old (Err e)
copy_no_id n state f g old e h source target callable =
    record {
      calls = unstarted (CopyStartsOr n f f g g)
          (λ started last call done. HasCopied state started last call f f g g done) state old e
          callable (inl h, (refl, refl));
      source = source;
      target = target;
    }

copy_refused_at : {L S : Type 0} (n : ℕ) (state : L → LinkView S) (f f' g : FileValue) (old new : SftpValue L)
    (e : Error) → f' ≡ f → CopyStarts f g n old.core new.core (Err e) → new ≡ with_core old new.core
    → IsGrant old.core f.grant → IsGrant old.core g.grant → IsUsable state old
    → CopiesFile n state f f' g g old new (Err e)
copy_refused_at n state f f' g old new e same h left source target usable =
    record {
      calls = refused (CopyStartsOr n f f' g g)
          (λ started last call done. HasCopied state started last call f f' g g done) state old new e
          usable (inr (h, left), (same, refl)) h.keeps (ap (λ (x : SftpValue _). x.link) left);
      source = subst (λ (x : FileValue). IsGrant new.core x.grant) (sym same)
          (grant_kept old.core new.core f.grant h.keeps.grants source);
      target = grant_kept old.core new.core g.grant h.keeps.grants target;
    }

-- the handles of two files, the first at place 0
handles : List ℕ → List ℕ → Answers
handles first second zero = Some (reply.Handle first)
handles first second (suc place) = Some (reply.Handle second)

copy_called_at : {L S : Type 0} (n : ℕ) (state : L → LinkView S) (f f' g g' : FileValue)
    (old started new : SftpValue L) (call : CallValue CopyValue) (result : Result (Unit {0}) Error) → IsUsable state old
    → IsGrant old.core f.grant → IsGrant old.core g.grant → CopyStarts f g n old.core started.core (Ok call)
    → started ≡ with_core old started.core → HasCopied state started new call f f' g g' result
    → CopiesFile n state f f' g g' old new result
unfolding handles
copy_called_at n state f f' g g' old started new call result usable source target starts left h =
    let answers : Answers = handles f.grant.handle g.grant.handle in
    let apart = started_apart copy_meaning tt _ answers old.core started.core call
    (starts.starts answers refl refl) starts.keeps in
    let calls = ran (CopyStartsOr n f f' g g')
    (λ first last begun done. HasCopied state first last begun f f' g g' done) state old started new call result usable
    ((starts, left), tt) h
    (finish_all copy_meaning state old started new call result apart h.finished)
    (finish_faults copy_meaning state old started new call result (ap (λ (x : SftpValue _). x.link) left)
    h.finished) in
    record {
      calls = calls;
      source = subst (λ (x : GrantValue). IsGrant new.core x) (sym (ap (λ (x : FileValue). x.grant) h.source.rest))
          (grant_kept old.core new.core f.grant calls.keeps.grants source);
      target = subst (λ (x : GrantValue). IsGrant new.core x) (sym (ap (λ (x : FileValue). x.grant) h.target.rest))
          (grant_kept old.core new.core g.grant calls.keeps.grants target);
    }

-- ---- files of a path, whole

pub read_path_no_id : {L S : Type 0} (path : List ℕ) (state : L → LinkView S) (old : SftpValue L) (e : Error)
    → IsUnstarted old old e → IsCallable state old → ReadsPath path state old old (Err e)
read_path_no_id path state old e h callable =
    no_id (OnCore (ReadsFrom path [])) (HasFinishedRead state) state old e callable h

read_path_refused_at : {L S : Type 0} (path : List ℕ) (state : L → LinkView S) (old new : SftpValue L) (e : Error)
    → ReadsFrom path [] old.core new.core (Err e) → new ≡ with_core old new.core
    → IsUsable state old → ReadsPath path state old new (Err e)
read_path_refused_at path state old new e h left usable =
    refused (IfIdLeft (OnCore (ReadsFrom path []))) (HasFinishedRead state) state old new e usable (inr (h, left))
    h.keeps (ap (λ (x : SftpValue _). x.link) left)

read_path_called_at : {L S : Type 0} (path : List ℕ) (state : L → LinkView S) (old started new : SftpValue L)
    (call : FsReadValue) (result : Result Filled Error) → IsUsable state old
    → ReadsFrom path [] old.core started.core (Ok call) → started ≡ with_core old started.core
    → HasFinishedRead state started new call result → ReadsPath path state old new result
read_path_called_at path state old started new call result usable starts left h =
    ran (IfIdLeft (OnCore (ReadsFrom path []))) (HasFinishedRead state) state old started new call result usable
    (starts, left) h
    (spares_both old.core started.core new.core (λ id. Unit {0}) (IsNoneOfRead call.stage) (λ id. Unit {0})
    starts.spares h.spares)
    (faults_since state old started h.mid new result (ap (λ (x : SftpValue _). x.link) left)
    (ap (λ (x : SftpValue _). x.link) h.left) (read_fault h.mid.core new.core h.last.stage h.given_up)
    h.waited.faults)

pub write_path_no_id : {L S : Type 0} (path content : List ℕ) (state : L → LinkView S) (old : SftpValue L) (e : Error)
    → IsUnstarted old old e → IsCallable state old → WritesPath path content state old old (Err e)
write_path_no_id path content state old e h callable =
    no_id (OnCore (WritesFrom path content [])) (HasFinishedWrite state) state old e callable h

write_path_refused_at : {L S : Type 0} (path content : List ℕ) (state : L → LinkView S) (old new : SftpValue L)
    (e : Error) → WritesFrom path content [] old.core new.core (Err e) → new ≡ with_core old new.core
    → IsUsable state old → WritesPath path content state old new (Err e)
write_path_refused_at path content state old new e h left usable =
    refused (IfIdLeft (OnCore (WritesFrom path content []))) (HasFinishedWrite state) state old new e usable
    (inr (h, left)) h.keeps (ap (λ (x : SftpValue _). x.link) left)

write_path_called_at : {L S : Type 0} (path content : List ℕ) (state : L → LinkView S)
    (old started new : SftpValue L) (call : FsWriteValue) (result : Result (Unit {0}) Error) → IsUsable state old
    → WritesFrom path content [] old.core started.core (Ok call) → started ≡ with_core old started.core
    → HasFinishedWrite state started new call result → WritesPath path content state old new result
write_path_called_at path content state old started new call result usable starts left h =
    ran (IfIdLeft (OnCore (WritesFrom path content []))) (HasFinishedWrite state) state old started new call result
    usable (starts, left) h
    (spares_both old.core started.core new.core (λ id. Unit {0}) (IsNoneOfWrite call.stage) (λ id. Unit {0})
    starts.spares h.spares)
    (faults_since state old started h.mid new result (ap (λ (x : SftpValue _). x.link) left)
    (ap (λ (x : SftpValue _). x.link) h.left) (write_fault h.mid.core new.core h.last.stage h.given_up)
    h.waited.faults)

-- ---- whole reads and writes that were just started have not answered

pub read_begun : (site : Site) (plan : Plan) (answers : Answers) (old new : Core) (stage : Whole)
    → ReadOpens site plan answers old new stage → read_over stage ≡ false
read_begun site plan answers old new (whole.Opening call facts) h = refl
read_begun site plan answers old new (whole.Open grant reads tickets) h = absurd h
read_begun site plan answers old new whole.Ended h = absurd h

pub write_begun : (site : Site) (plan : Plan) (answers : Answers) (old new : Core) (content : List ℕ) (facts : Facts)
    (stage : Writing) → WriteOpens site plan answers old new content facts stage → write_over stage ≡ false
write_begun site plan answers old new content facts (writing.Opening call more) h = refl
write_begun site plan answers old new content facts (writing.Opened grant more) h = absurd h
write_begun site plan answers old new content facts (writing.Parts grant call) h = absurd h
write_begun site plan answers old new content facts writing.Ended h = absurd h

-- ---- the same for a session whose fields were taken apart before the start

pub file_refused : {W M V L S : Type 0} (s : Meaning W M V) (w : W) (at : M → FileAt) (plan : FilePlan)
    (state : L → LinkView S) (before after : FileValue) (old inside new : SftpValue L) (e : Error) → after ≡ before
    → inside ≡ old → StartsOnFile s w plan before inside.core new.core (Err e) → new ≡ with_core inside new.core
    → IsGrant old.core before.grant → IsUsable state old
    → CallsOnFile s w at plan state before after old new (Err e)
file_refused s w at plan state before after old inside new e moved same h left held usable =
    subst (λ (x : SftpValue _). CallsOnFile s w at plan state before after x new (Err e)) same
    (file_refused_at s w at plan state before after inside new e moved h left
    (held_inside old inside before.grant same held) (usable_inside state old inside same usable))

pub file_called : {W M V L S : Type 0} (s : Meaning W M V) (w : W) (at : M → FileAt) (plan : FilePlan)
    (state : L → LinkView S) (before after : FileValue) (old inside started new : SftpValue L) (call : CallValue M)
    (result : Result V Error) → IsUsable state old → IsGrant old.core before.grant → inside ≡ old
    → StartsOnFile s w plan before inside.core started.core (Ok call) → started ≡ with_core inside started.core
    → HasFinishedOn s at state started new call before after result
    → CallsOnFile s w at plan state before after old new result
file_called s w at plan state before after old inside started new call result usable held same starts left h =
    subst (λ (x : SftpValue _). CallsOnFile s w at plan state before after x new result) same
    (file_called_at s w at plan state before after inside started new call result
    (usable_inside state old inside same usable) (held_inside old inside before.grant same held) starts left h)

pub copy_refused : {L S : Type 0} (n : ℕ) (state : L → LinkView S) (f f' g : FileValue) (old inside new : SftpValue L)
    (e : Error) → f' ≡ f → inside ≡ old → CopyStarts f g n inside.core new.core (Err e)
    → new ≡ with_core inside new.core → IsGrant old.core f.grant → IsGrant old.core g.grant → IsUsable state old
    → CopiesFile n state f f' g g old new (Err e)
copy_refused n state f f' g old inside new e moved same h left source target usable =
    subst (λ (x : SftpValue _). CopiesFile n state f f' g g x new (Err e)) same
    (copy_refused_at n state f f' g inside new e moved h left (held_inside old inside f.grant same source)
    (held_inside old inside g.grant same target) (usable_inside state old inside same usable))

pub copy_called : {L S : Type 0} (n : ℕ) (state : L → LinkView S) (f f' g g' : FileValue)
    (old inside started new : SftpValue L) (call : CallValue CopyValue) (result : Result (Unit {0}) Error)
    → IsUsable state old → IsGrant old.core f.grant → IsGrant old.core g.grant → inside ≡ old
    → CopyStarts f g n inside.core started.core (Ok call) → started ≡ with_core inside started.core
    → HasCopied state started new call f f' g g' result → CopiesFile n state f f' g g' old new result
copy_called n state f f' g g' old inside started new call result usable source target same starts left h =
    subst (λ (x : SftpValue _). CopiesFile n state f f' g g' x new result) same
    (copy_called_at n state f f' g g' inside started new call result (usable_inside state old inside same usable)
    (held_inside old inside f.grant same source) (held_inside old inside g.grant same target) starts left h)

pub read_path_refused : {L S : Type 0} (path : List ℕ) (state : L → LinkView S) (old inside new : SftpValue L)
    (e : Error) → inside ≡ old → ReadsFrom path [] inside.core new.core (Err e) → new ≡ with_core inside new.core
    → IsUsable state old → ReadsPath path state old new (Err e)
read_path_refused path state old inside new e same h left usable =
    subst (λ (x : SftpValue _). ReadsPath path state x new (Err e)) same
    (read_path_refused_at path state inside new e h left (usable_inside state old inside same usable))

pub read_path_called : {L S : Type 0} (path : List ℕ) (state : L → LinkView S) (old inside started new : SftpValue L)
    (call : FsReadValue) (result : Result Filled Error) → IsUsable state old → inside ≡ old
    → ReadsFrom path [] inside.core started.core (Ok call) → started ≡ with_core inside started.core
    → HasFinishedRead state started new call result → ReadsPath path state old new result
read_path_called path state old inside started new call result usable same starts left h =
    subst (λ (x : SftpValue _). ReadsPath path state x new result) same
    (read_path_called_at path state inside started new call result (usable_inside state old inside same usable) starts
    left h)

pub write_path_refused : {L S : Type 0} (path content : List ℕ) (state : L → LinkView S) (old inside new : SftpValue L)
    (e : Error) → inside ≡ old → WritesFrom path content [] inside.core new.core (Err e)
    → new ≡ with_core inside new.core → IsUsable state old → WritesPath path content state old new (Err e)
write_path_refused path content state old inside new e same h left usable =
    subst (λ (x : SftpValue _). WritesPath path content state x new (Err e)) same
    (write_path_refused_at path content state inside new e h left (usable_inside state old inside same usable))

pub write_path_called : {L S : Type 0} (path content : List ℕ) (state : L → LinkView S)
    (old inside started new : SftpValue L) (call : FsWriteValue) (result : Result (Unit {0}) Error)
    → IsUsable state old → inside ≡ old → WritesFrom path content [] inside.core started.core (Ok call)
    → started ≡ with_core inside started.core → HasFinishedWrite state started new call result
    → WritesPath path content state old new result
write_path_called path content state old inside started new call result usable same starts left h =
    subst (λ (x : SftpValue _). WritesPath path content state x new result) same
    (write_path_called_at path content state inside started new call result
    (usable_inside state old inside same usable) starts left h)
