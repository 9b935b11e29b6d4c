-- What a journal says of the grant of each request is a grant that the request may use.
use Rattle.std.proofs.Common.{◌≡◌, ℕ, true, List, [], Option, Some, None, refl, ap, sym, ◌∙◌, subst, inr}
use Rattle.sftp_model.specs.declared.config.Choice.{Choice}
use Rattle.sftp_model.specs.declared.config.ServerConfig.{ServerConfig}
use Rattle.sftp_model.specs.declared.request.Request.{Request}
use Rattle.sftp_model.specs.declared.request.Request.TheVariants as request
use Rattle.machine_model.specs.FileTree.{FileTree}
use Rattle.session_model.specs.declared.entry.Entry.{Entry}
use Rattle.session_model.specs.declared.event.Owner.{Owner}
use Rattle.session_model.specs.declared.event.Owner.TheVariants as owner
use Rattle.session_model.specs.Calls.{Setting}
use Rattle.session_model.specs.Grants.{is_asked_by}
use Rattle.session_model.specs.Journals.{IsJournal}
use Rattle.session_model.specs.Readings.{AskedRequest, answer, asked_at, count_sent}
use Rattle.session_model.proofs.RequestLaws.{sent_asked}
use Rattle.run_laws.specs.Bearing.{BearsHandle, IsOfAsker, UsesGrant, grant_at, grant_with, subject, subject_at, grant_used_at}
use Rattle.run_laws.specs.GrantUses.{UseGrants}
use Rattle.run_laws.specs.Steps.{RunOf}
use Rattle.run_laws.proofs.SentLaws.{AreAll, all_sent}
use Rattle.run_laws.proofs.UseLaws.{MayBeUsed, UseWell, use_grants}
use Rattle.run_laws.proofs.UsedLaws.{open_used, some_is, uses_grant}

-- the handle by which a request does what it does is one that it bears
pub subject_borne : (r : Request) (h : List ℕ) → subject r ≡ Some h → BearsHandle r h
subject_borne (request.Close handle) h e = some_is handle h e
subject_borne (request.Read handle offset len) h e = some_is handle h e
subject_borne (request.Write handle offset content) h e = some_is handle h e
subject_borne (request.Fstat handle) h e = some_is handle h e
subject_borne (request.Fsetstat handle attrs) h e = some_is handle h e
subject_borne (request.Readdir handle) h e = some_is handle h e
subject_borne (request.Fsync handle) h e = some_is handle h e
subject_borne (request.CopyData from from_offset len to to_offset) h e = inr (some_is to h e)
subject_borne other h e = absurd cc

asker_any : (past : List Entry) (by : Owner) (g : ℕ) → IsOfAsker past by g → (lane call : ℕ)
    × (is_asked_by (asked_at past g) lane call ≡ true)
asker_any past (owner.Call lane call) g x = (lane, x.0, x.1)
asker_any past owner.Setup g x = absurd x
asker_any past owner.Close g x = x

borne_may : (s : Setting) (past : List Entry) (place g : ℕ) (a : AskedRequest) (h : List ℕ) → IsJournal s past
    → asked_at past place ≡ Some a → BearsHandle a.request h → grant_used_at s past place h ≡ Some g
    → MayBeUsed s past place g
borne_may s past place g a h j is b uses =
    let u : UsesGrant s past place a.by h = uses_grant s past place a h j is b in
    let both : Some u.grant ≡ Some g = sym u.is ∙ uses in
    let who = asker_any past a.by u.grant u.asker in
    subst (MayBeUsed s past place) (some_is u.grant g both)
    (record {
      before = u.before;
      lane = who.0;
      call = who.1;
      asker = who.2;
      handle = h;
      came = u.came;
      unclosed = open_used s past place u.grant a h j is b u.is;
    })

may_at : (s : Setting) (past : List Entry) (place g : ℕ) → IsJournal s past → grant_at s past place ≡ Some g
    → MayBeUsed s past place g
may_at s past place g j e = by_asked (asked_at past place) refl e
  where
    by_subject : (a : AskedRequest) (o : Option (List ℕ)) → asked_at past place ≡ Some a → subject a.request ≡ o
        → grant_with (grant_used_at s past place) o ≡ Some g → MayBeUsed s past place g
    by_subject a None is of e = absurd cc
    by_subject a (Some h) is of e = borne_may s past place g a h j is (subject_borne a.request h of) e

    by_asked : (x : Option AskedRequest) → asked_at past place ≡ x
        → grant_with (grant_used_at s past place) (subject_at x) ≡ Some g → MayBeUsed s past place g
    by_asked None is e = absurd cc
    by_asked (Some a) is e = by_subject a (subject a.request) is refl e

-- the grant of a request is that of its handle
pub grant_of_subject : (s : Setting) (past : List Entry) (place : ℕ) (a : AskedRequest) (h : List ℕ)
    → asked_at past place
    ≡ Some a → subject a.request ≡ Some h → grant_at s past place ≡ grant_used_at s past place h
grant_of_subject s past place a h is of = ap (λ (x : Option AskedRequest). grant_with (grant_used_at s past place)
    (subject_at x)) is ∙ ap (grant_with (grant_used_at s past place)) of

pub used_well : (s : Setting) (past : List Entry) → IsJournal s past → UseWell s past (grant_at s past)
used_well s past j =
    record {
      may = λ place g below e. may_at s past place g j e;
      closes = λ place a h is closes. grant_of_subject s past place a h is (ap subject closes);
    }

pub served_use_grants : (s : Setting) (config : ServerConfig) (choices : List Choice) (first : FileTree)
    (past : List Entry) (now : FileTree) (run : RunOf config choices first past now) → IsJournal s past
    → UseGrants (answer past) (grant_at s past) [] run.steps
served_use_grants s config choices first past now run j =
    use_grants s past (count_sent past) (grant_at s past) [] run.steps j (sent_asked past) (used_well s past j)
    (subst (AreAll past (count_sent past) []) (sym run.asks) (all_sent past))
