-- `==` of each type decides equality.
use Rattle.std.specs.Prelude.{◌≡◌, ◌==◌}
use Rattle.std.specs.Bool.{Decides}
use Rattle.std.specs.Cmp.{booleans_Decides}
use Rattle.std.specs.Cmp.Lexicographic.{bytes_decides}
use Rattle.std.proofs.lemmas.Bool.Decides.{Decides-eqb}
use Rattle.std.proofs.Common.{ap}
use Rattle.sftp_values.specs.Same.{and_decides, decides_by, option_decides, pair_decides, items_decides}
use Rattle.sftp_model.specs.declared.flags.OpenFlags.{OpenFlags}
use Rattle.sftp_model.specs.declared.flags.Extensions.{Extensions}
use Rattle.sftp_model.specs.declared.config.Choice.{Choice}
use Rattle.sftp_model.specs.declared.config.Limits.{Limits}
use Rattle.sftp_model.specs.declared.config.ServerConfig.{ServerConfig}
use Rattle.sftp_model.specs.declared.file_attrs.FileAttrs.{FileAttrs}
use Rattle.sftp_model.specs.declared.reply.NameEntry.{NameEntry}
use Rattle.sftp_model.specs.declared.reply.Reply.{Reply}
use Rattle.sftp_model.specs.declared.reply.Reply.TheVariants as reply
use Rattle.sftp_model.specs.contracts.config.ChoicePartialEq.TheImpl as choice
use Rattle.sftp_model.specs.contracts.config.LimitsPartialEq.TheImpl as limits
use Rattle.sftp_model.specs.contracts.config.ServerConfigPartialEq.TheImpl as config
use Rattle.sftp_model.specs.contracts.file_attrs.FileAttrsPartialEq.TheImpl as attrs
use Rattle.sftp_model.specs.contracts.reply.NameEntryPartialEq.TheImpl as entry
use Rattle.sftp_model.specs.contracts.reply.ReplyPartialEq.TheImpl as replies
use Rattle.sftp_model.specs.declared.open_options.OpenOptions.{OpenOptions}
use Rattle.sftp_model.specs.contracts.open_options.OpenOptionsPartialEq.TheImpl as open_options

pub flags_decides : (a b : OpenFlags) → Decides (a.0 == b.0) (a ≡ b)
flags_decides a b = decides_by _ (λ h. λ i. record { 0 = h i }) (λ e. ap (λ x. x.0) e) (Decides-eqb a.0 b.0)

pub extensions_decides : (a b : Extensions) → Decides (a.0 == b.0) (a ≡ b)
extensions_decides a b = decides_by _ (λ h. λ i. record { 0 = h i }) (λ e. ap (λ x. x.0) e) (Decides-eqb a.0 b.0)

pub attrs_decides : (a b : FileAttrs) → Decides (attrs.ghosts.eq a b) (a ≡ b)
attrs_decides a b =
    decides_by _ (λ h. λ i. record { size = h.0 i; id = h.1.0 i; permissions = h.1.1.0 i; time = h.1.1.1 i })
    (λ e. (ap (λ x. x.size) e, (ap (λ x. x.id) e, (ap (λ x. x.permissions) e, ap (λ x. x.time) e))))
    (and_decides _ _ (option_decides _ Decides-eqb a.size b.size)
    (and_decides _ _ (option_decides _ pair_decides a.id b.id)
    (and_decides _ _ (option_decides _ Decides-eqb a.permissions b.permissions)
    (option_decides _ pair_decides a.time b.time))))

pub entry_decides : (a b : NameEntry) → Decides (entry.ghosts.eq a b) (a ≡ b)
entry_decides a b =
    decides_by _ (λ h. λ i. record { filename = h.0 i; longname = h.1.0 i; attrs = h.1.1 i })
    (λ e. (ap (λ x. x.filename) e, (ap (λ x. x.longname) e, ap (λ x. x.attrs) e)))
    (and_decides _ _ (bytes_decides a.filename b.filename) (and_decides _ _ (bytes_decides a.longname b.longname)
    (attrs_decides a.attrs b.attrs)))

pub reply_decides : (a b : Reply) → Decides (replies.ghosts.eq a b) (a ≡ b)
reply_decides (reply.Version v e) (reply.Version w f) =
    decides_by _ (λ h. λ i. reply.Version (h.0 i) (h.1 i)) (λ e. (cc, cc))
    (and_decides _ _ (Decides-eqb v w) (extensions_decides e f))
reply_decides (reply.Status c m l) (reply.Status d n k) =
    decides_by _ (λ h. λ i. reply.Status (h.0 i) (h.1.0 i) (h.1.1 i)) (λ e. (cc, (cc, cc)))
    (and_decides _ _ (Decides-eqb c d) (and_decides _ _ (bytes_decides m n) (bytes_decides l k)))
reply_decides (reply.Handle h) (reply.Handle k) = decides_by _ (λ e. ap (λ x. reply.Handle x) e) (λ e. cc)
    (bytes_decides h k)
reply_decides (reply.Content h) (reply.Content k) = decides_by _ (λ e. ap (λ x. reply.Content x) e) (λ e. cc)
    (bytes_decides h k)
reply_decides (reply.Names h) (reply.Names k) = decides_by _ (λ e. ap (λ x. reply.Names x) e) (λ e. cc)
    (items_decides _ entry_decides h k)
reply_decides (reply.Attrs h) (reply.Attrs k) = decides_by _ (λ e. ap (λ x. reply.Attrs x) e) (λ e. cc)
    (attrs_decides h k)
reply_decides (reply.Extended h) (reply.Extended k) = decides_by _ (λ e. ap (λ x. reply.Extended x) e) (λ e. cc)
    (bytes_decides h k)
reply_decides a b = (λ e. absurd cc, λ e. absurd cc)

pub choice_decides : (a b : Choice) → Decides (choice.ghosts.eq a b) (a ≡ b)
choice_decides a b =
    decides_by _ (λ h. λ i. record { refuse = h.0 i; cap = h.1 i }) (λ e. (ap (λ x. x.refuse) e, ap (λ x. x.cap) e))
    (and_decides _ _ (Decides-eqb a.refuse b.refuse) (Decides-eqb a.cap b.cap))

pub limits_decides : (a b : Limits) → Decides (limits.ghosts.eq a b) (a ≡ b)
limits_decides a b =
    decides_by _ (λ h. λ i. record {
      packet_len = h.0 i;
      read_len = h.1.0 i;
      write_len = h.1.1.0 i;
      open_handles =
          h.1.1.1 i;
    })
    (λ e. (ap (λ x. x.packet_len) e, (ap (λ x. x.read_len) e, (ap (λ x. x.write_len) e, ap (λ x. x.open_handles) e))))
    (and_decides _ _ (Decides-eqb a.packet_len b.packet_len)
    (and_decides _ _ (Decides-eqb a.read_len b.read_len)
    (and_decides _ _ (Decides-eqb a.write_len b.write_len) (Decides-eqb a.open_handles b.open_handles))))

pub config_decides : (a b : ServerConfig) → Decides (config.ghosts.eq a b) (a ≡ b)
config_decides a b =
    decides_by _ (λ h. λ i. record { extensions = h.0 i; limits = h.1.0 i; cut = h.1.1 i })
    (λ e. (ap (λ x. x.extensions) e, (ap (λ x. x.limits) e, ap (λ x. x.cut) e)))
    (and_decides _ _ (extensions_decides a.extensions b.extensions)
    (and_decides _ _ (option_decides _ limits_decides a.limits b.limits) (Decides-eqb a.cut b.cut)))

-- ---- OpenOptions

pub open_options_decides : (a b : OpenOptions) → Decides (open_options.ghosts.eq a b) (a ≡ b)
open_options_decides a b =
    decides_by _ (λ h. λ i. record {
      read = h.0 i;
      write = h.1.0 i;
      append = h.1.1.0 i;
      truncate = h.1.1.1.0 i;
      create =
          h.1.1.1.1.0 i;
      create_new = h.1.1.1.1.1 i;
    })
    (λ e. (
      ap (λ x. x.read) e,
      (
        ap (λ x. x.write) e,
        (
          ap (λ x. x.append) e,
          (ap (λ x. x.truncate) e, (ap (λ x. x.create) e, ap (λ x. x.create_new) e)),
        ),
      ),
    ))
    (and_decides _ _ (booleans_Decides a.read b.read)
    (and_decides _ _ (booleans_Decides a.write b.write)
    (and_decides _ _ (booleans_Decides a.append b.append)
    (and_decides _ _ (booleans_Decides a.truncate b.truncate)
    (and_decides _ _ (booleans_Decides a.create b.create) (booleans_Decides a.create_new b.create_new))))))
