-- No choice of a list refuses anything.
use Rattle.std.proofs.Common.{◌≡◌, ℕ, ◌==◌, Bool, true, false, List, [], ◌∷◌, ◌++◌, Option, Some, None, if◌then◌else◌, refl, ap, sym, ◌∙◌, subst, arith}
use Rattle.std.specs.Prelude.{Result, Ok, Err, codes, is_some, nat_le, not, ◌&&◌}
use Rattle.std.specs.List.{list_all}
use Rattle.std.specs.Str.{bytes_eq}
use Rattle.std.proofs.lemmas.Bool.{and_parts}
use Rattle.std.proofs.lemmas.Bool.Decides.{nat_tests}
use Rattle.std.proofs.lemmas.List.Folds.{list_all-append}
use Rattle.ssh_encoding.specs.Reading.{◌>>=◌}
use Rattle.sftp_model.specs.Readings.{has_bit}
use Rattle.sftp_model.specs.declared.options.SftpOptions.{SftpOptions}
use Rattle.machine_model.specs.Components.{components}
use Rattle.script_words.specs.declared.reason.Reason.{Reason}
use Rattle.script_words.specs.declared.reason.Reason.TheVariants as reason
use Rattle.script_words.specs.Lines.{greatest_u32, greatest_u64, number_in, number_of, two_words, within}
use Rattle.script_grammar.specs.Setup.{
  Draft,
  choice_line,
  content_in,
  cut_line,
  dir_line,
  ext_line,
  extension_in,
  file_line,
  limits_line,
  meets_dir,
  meets_file,
  option_in,
  option_line,
  path_in,
  pick_line,
  refusal_in,
  server_line,
  setup_line,
  with_extension,
  with_options,
}
use Rattle.script_grammar.proofs.LineLaws.{Fact, Keeps, KeepsIn, bind_keeps, four_keeps, if_keeps, if_keeps_in, one_keeps, two_keeps, unless_keeps}
use Rattle.view_model.specs.CanView.{refuses_nothing}

-- no choice refuses anything
abbrev pub Unrefused : Fact
Unrefused script = list_all refuses_nothing script.choices ≡ true

-- ---- a word that is 0

is_number : (least most n : ℕ) (number : Option ℕ) → within least most number ≡ Ok n → (number ≡ Some n)
    × (nat_le n most ≡ true)
is_number least most n None e = absurd cc
is_number least most n (Some m) e = by_range (nat_le least m && nat_le m most) refl e
  where
    by_range : (b : Bool) → (nat_le least m && nat_le m most) ≡ b → (if b then Ok m else Err reason.Range) ≡ Ok n
        → (Some m ≡ Some n) × (nat_le n most ≡ true)
    by_range false t e = absurd cc
    by_range true t e =
        (let same : m ≡ n = cc in (
          ap Some same,
          subst (λ (k : ℕ). nat_le k most ≡ true) same
              (and_parts (nat_le least m) (nat_le m most) t).1,
        ))

is_zero : (n : ℕ) → nat_le n 0 ≡ true → n ≡ 0
is_zero n e = grind (arith, nat_tests)

refused_number : (m : Result ℕ Reason) (x : ℕ) → (m >>= λ n. if n == 1 then Err reason.Range else Ok n) ≡ Ok x → m
    ≡ Ok x
refused_number (Err why) x e = absurd cc
refused_number (Ok n) x e = (let same : n ≡ x = by_test (n == 1) e in λ i. Ok (same i))
  where
    by_test : (b : Bool) → (if b then Err reason.Range else Ok n) ≡ Ok x → n ≡ x
    by_test true e = absurd cc
    by_test false e = cc

refuses_zero : (a : List ℕ) (n x : ℕ) → number_in 0 0 a ≡ Ok n → refusal_in a ≡ Ok x → x ≡ 0
refuses_zero a n x e f =
    let small = is_number 0 0 n (number_of a) e in
    let large = is_number 0 greatest_u32 x (number_of a) (refused_number (number_in 0 greatest_u32 a) x f) in
    let both : Some n ≡ Some x = sym small.0 ∙ large.0 in
    let same : n ≡ x = cc in
    sym same ∙ is_zero n small.1

-- ---- lines

-- a line of a choice whose first word is 0
abbrev pub MayChoose : Bool → List (List ℕ) → Type 0
MayChoose is_choice words = is_choice ≡ true → (n : ℕ) × (two_words (λ a b. number_in 0 0 a) words ≡ Ok n)

module _ (d : Draft) (k : list_all refuses_nothing d.script.choices ≡ true) where
  one_more : (refuse cap : ℕ) → refuse ≡ 0 → list_all refuses_nothing
      (d.script.choices ++ record { refuse = refuse; cap = cap } ∷ []) ≡ true
  one_more refuse cap e = rw (
    list_all-append refuses_nothing d.script.choices
        (record { refuse = refuse; cap = cap } ∷ []),
    k,
    e,
  ) refl

  choices_keep : (words : List (List ℕ)) (n : ℕ) → two_words (λ a b. number_in 0 0 a) words ≡ Ok n
      → Keeps Unrefused (two_words (choice_line d) words)
  choices_keep [] n e = absurd cc
  choices_keep (a ∷ []) n e = absurd cc
  choices_keep (a ∷ b ∷ []) n e =
      bind_keeps (refusal_in a) _ (λ x f. bind_keeps (number_in 0 greatest_u32 b) _
      (λ y g. record { is = one_more x y (refuses_zero a n x e f) }))
  choices_keep (a ∷ b ∷ c ∷ words) n e = absurd cc

  choice_keeps : (is_choice : Bool) (words : List (List ℕ)) (y : Option (Result Draft Reason))
      → MayChoose is_choice words → KeepsIn Unrefused y
      → KeepsIn Unrefused (if is_choice then Some (two_words (choice_line d) words) else y)
  choice_keeps true words y may rest = record { is = (let m = may refl in choices_keep words m.0 m.1) }
  choice_keeps false words y may rest = rest

  option_keeps : (key least most : ℕ) (word : List ℕ) (set : ℕ → SftpOptions)
      → Keeps Unrefused (option_in d key least most word set)
  option_keeps key least most word set = bind_keeps (number_in least most word) _
      (λ n e. unless_keeps _ (with_options d key (set n)) (λ free. k))

  options_keep : (name word : List ℕ) → Keeps Unrefused (option_line d name word)
  options_keep name word =
      if_keeps (bytes_eq name (codes "max_pending_requests")) _ _ (option_keeps 0 1 65535 word _)
      (if_keeps (bytes_eq name (codes "requests_buffer_size")) _ _ (option_keeps 1 1 65536 word _)
      (if_keeps (bytes_eq name (codes "responses_buffer_size")) _ _ (option_keeps 2 1 65536 word _)
      (if_keeps (bytes_eq name (codes "tokio_compat_file_write_limit")) _ _ (option_keeps 3 1 16777216 word _)
      (if_keeps (bytes_eq name (codes "max_read_len")) _ _ (option_keeps 4 1 _ word _)
      (if_keeps (bytes_eq name (codes "max_write_len")) _ _ (option_keeps 5 1 _ word _)
      (if_keeps (bytes_eq name (codes "flush_interval")) _ _ (option_keeps 6 0 1000000 word _)
      (if_keeps (bytes_eq name (codes "read_window")) _ _ (option_keeps 7 1 64 word _) (record { is = tt }))))))))

  limits_keep : (p r w h : List ℕ) → Keeps Unrefused (limits_line d p r w h)
  limits_keep p r w h =
      bind_keeps (number_in 0 greatest_u64 p) _ (λ a i. bind_keeps (number_in 0 greatest_u64 r) _
      (λ b j. bind_keeps (number_in 0 greatest_u64 w) _ (λ c l. bind_keeps (number_in 0 greatest_u64 h) _
      (λ e m. unless_keeps (is_some d.script.server.limits) _ (λ free. k)))))

  server_keeps : (words : List (List ℕ)) → Keeps Unrefused (server_line d words)
  server_keeps [] = record { is = tt }
  server_keeps (kind ∷ words) =
      if_keeps (bytes_eq kind (codes "ext")) _ _ (one_keeps (ext_line d) words
      (λ a. bind_keeps (extension_in a) _ (λ n e. unless_keeps (has_bit d.script.server.extensions.0 n)
      (with_extension d n) (λ free. k))))
      (if_keeps (bytes_eq kind (codes "limits")) _ _ (four_keeps (limits_line d) words (λ p r w h. limits_keep p r w h))
      (if_keeps (bytes_eq kind (codes "cut")) _ _ (one_keeps (cut_line d) words
      (λ a. bind_keeps (number_in 1 greatest_u32 a) _ (λ n e. unless_keeps (not (d.script.server.cut == 0)) _
      (λ free. k)))) (record { is = tt })))

  file_keeps : (a b : List ℕ) → Keeps Unrefused (file_line d a b)
  file_keeps a b =
      bind_keeps (path_in a) _ (λ path e. bind_keeps (content_in d.script.files b) _
      (λ content i. unless_keeps (meets_file d.script (components path)) _ (λ free. k)))

  dir_keeps : (a : List ℕ) → Keeps Unrefused (dir_line d a)
  dir_keeps a = bind_keeps (path_in a) _ (λ path e. unless_keeps (meets_dir d.script (components path)) _ (λ free. k))

  pick_keeps : (a : List ℕ) → Keeps Unrefused (pick_line d a)
  pick_keeps a = bind_keeps (number_in 0 greatest_u32 a) _ (λ x e. record { is = k })

  setup_keeps : (word : List ℕ) (words : List (List ℕ)) → MayChoose (bytes_eq word (codes "choice")) words
      → KeepsIn Unrefused (setup_line d word words)
  setup_keeps word words may =
      if_keeps_in (bytes_eq word (codes "option")) _ _ (two_keeps (option_line d) words (λ a b. options_keep a b))
      (if_keeps_in (bytes_eq word (codes "server")) _ _ (server_keeps words)
      (if_keeps_in (bytes_eq word (codes "file")) _ _ (two_keeps (file_line d) words (λ a b. file_keeps a b))
      (if_keeps_in (bytes_eq word (codes "dir")) _ _ (one_keeps (dir_line d) words (λ a. dir_keeps a))
      (choice_keeps (bytes_eq word (codes "choice")) words _ may
      (if_keeps_in (bytes_eq word (codes "pick")) _ _ (one_keeps (pick_line d) words (λ a. pick_keeps a))
      (record { is = tt }))))))

  -- what a line of setup leaves
  pub setup_unrefused : (new : Draft) (word : List ℕ) (words : List (List ℕ))
      → MayChoose (bytes_eq word (codes "choice")) words
      → setup_line d word words ≡ Some (Ok new) → list_all refuses_nothing new.script.choices ≡ true
  setup_unrefused new word words may e =
      let kept : KeepsIn Unrefused (Some (Ok new)) = subst (λ (x : Option (Result Draft Reason)). KeepsIn Unrefused x) e
      (setup_keeps word words may) in
      kept.is.is
