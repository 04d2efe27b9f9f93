-- Names of one list: what is declared of each.
use Rattle.std.proofs.Common.{◌≡◌, ℕ, Bool, true, false, ◌⊎◌, inl, inr, List, [], ◌∷◌, map, length, Option, Some, None, refl, sym, ap, ◌∙◌, subst, true≢false, bytes_eq}
use Rattle.cb_lex.specs.declared.raw.name.RawName.{RawName}
use Rattle.cb_lex.specs.RawTermTree.{RawFormulaTree}
use Rattle.cb_term.specs.Tree.{Var}
use Rattle.cb_spec.specs.Domains.{kind_of_domain, typing}
use Rattle.cb_spec.specs.Runs.{HasConjunct}
use Rattle.cb_spec.specs.Forms.{form_of_domain}
use Rattle.cb_spec.specs.Typed.{GivesDomains, targets_of}
use Rattle.cb_spec.specs.TypedProcesses.{scope_of}
use Rattle.cb_spec.specs.TypedSubsts.{kind_of_target}
use Rattle.cb_spec.specs.TypedTerms.{form_in, IsDomain}
use Rattle.cb_forms.specs.Find.{found}
use Rattle.cb_forms.specs.Kinds.{form_of}
use Rattle.cb_judge.specs.declared.domain.Choice.{Choice}
use Rattle.cb_judge.specs.declared.names.Entry.{Entry}
use Rattle.cb_judge.specs.declared.names.View.{View}
use Rattle.cb_judge.specs.Meanings.{Names}
use Rattle.cb_judge.specs.Choices.{form_or_nought}
use Rattle.cb_judge.specs.Judged.{entry}
use Rattle.cb_normal.specs.Normal.{written, domain_or, named, formula_in}
use Rattle.cb_types.specs.declared.declare.Sort.{Sort}
use Rattle.cb_types.specs.Declares.{Numbers, Domains, next, domains_from, meaning_of, domain_faults, sort_fault, with_name, declare_fault}
use Rattle.cb_types.specs.NormalMachines.{declared_name}
use Rattle.cb_typing.specs.Reflects.{IsProper}
use Rattle.cb_typing.proofs.Clean.{Clean}
use Rattle.cb_typing.proofs.Lookups.{bytes_tell, bytes_self}
use Rattle.cb_typing.proofs.Under.{same_written}
use Rattle.cb_typing.proofs.Counts.{Each}
use Rattle.cb_typing.proofs.Domains.{Stays, KnowsSets, IsSized, is_whole, domain_form, domains_have, domains_sized}
use Rattle.cb_typing.proofs.Declared.{entries}

abbrev pub Has : List RawName → RawName → Type 0
Has [] x = ⊥
Has (y ∷ ys) x = (y ≡ x) ⊎ Has ys x

pub each_member : (P : List ℕ → Entry → Type 0) (s : Sort) (ns : Numbers) (ds : Domains) (xs : List RawName) → ((i : ℕ) (x : RawName) → Has xs x → P x.text (entry (meaning_of s ns ds i x) x.place)) → (i : ℕ) → Each P (entries s ns ds i xs)
each_member P s ns ds [] h i = tt
each_member P s ns ds (x ∷ xs) h i = (h i x (inl refl), each_member P s ns ds xs (λ i y m. h i y (inr m)) (next i))

pub member_sort : (s : Sort) (ns : Numbers) (ds : Domains) (xs : List RawName) (i : ℕ) (w : Names) → Clean (declare_fault s ns ds i w xs) → (x : RawName) → Has xs x → Clean (sort_fault s ns ds x)
member_sort s ns ds [] i w h x m = absurd m
member_sort s ns ds (y ∷ ys) i w h x (inl e) = subst (λ y. Clean (sort_fault s ns ds y)) e h.0.1
member_sort s ns ds (y ∷ ys) i w h x (inr m) = member_sort s ns ds ys (next i) (with_name s ns ds i y w) h.1 x m

-- ---- the scope and the targets of declared names

pub scope_has : (ds : Domains) (xs : List RawName) (x : RawName) → Has xs x → form_in (scope_of (map (declared_name ds) xs)) (written x.text) ≡ Some (form_of_domain (domain_or (found x.text ds)))
unfolding declared_name
scope_has ds [] x m = absurd m
scope_has ds (y ∷ ys) x m = by (scope_has ds ys x) (bytes_eq x.text y.text) refl m
  where
    by : (Has ys x → form_in (scope_of (map (declared_name ds) ys)) (written x.text) ≡ Some (form_of_domain (domain_or (found x.text ds)))) → (b : Bool) → bytes_eq x.text y.text ≡ b → (y ≡ x) ⊎ Has ys x → form_in (scope_of (map (declared_name ds) (y ∷ ys))) (written x.text) ≡ Some (form_of_domain (domain_or (found x.text ds)))
    by r true q m = let i : x.text ≡ y.text = bytes_tell x.text y.text q in rw (same_written x.text y.text ∙ q) (ap (λ t. Some (form_of_domain (domain_or (found t ds)))) (sym i))
    by r false q (inl e) = absurd (true≢false (sym (bytes_self x.text) ∙ ap (λ (z : RawName). bytes_eq x.text z.text) (sym e) ∙ q))
    by r false q (inr m) = rw (same_written x.text y.text ∙ q) (r m)

pub targets_have : (ds : Domains) (xs : List RawName) (x : RawName) → Has xs x → kind_of_target (targets_of (map (declared_name ds) xs)) (written x.text) ≡ Some (kind_of_domain (domain_or (found x.text ds)))
unfolding declared_name
targets_have ds [] x m = absurd m
targets_have ds (y ∷ ys) x m = by (targets_have ds ys x) (bytes_eq x.text y.text) refl m
  where
    by : (Has ys x → kind_of_target (targets_of (map (declared_name ds) ys)) (written x.text) ≡ Some (kind_of_domain (domain_or (found x.text ds)))) → (b : Bool) → bytes_eq x.text y.text ≡ b → (y ≡ x) ⊎ Has ys x → kind_of_target (targets_of (map (declared_name ds) (y ∷ ys))) (written x.text) ≡ Some (kind_of_domain (domain_or (found x.text ds)))
    by r true q m = let i : x.text ≡ y.text = bytes_tell x.text y.text q in rw (same_written x.text y.text ∙ q) (ap (λ t. Some (kind_of_domain (domain_or (found t ds)))) (sym i))
    by r false q (inl e) = absurd (true≢false (sym (bytes_self x.text) ∙ ap (λ (z : RawName). bytes_eq x.text z.text) (sym e) ∙ q))
    by r false q (inr m) = rw (same_written x.text y.text ∙ q) (r m)

pub nought_form : (o : Option Choice) → form_of (form_or_nought o) ≡ form_of_domain (domain_or o)
nought_form None = refl
nought_form (Some c) = domain_form c.domain

-- ---- domains of declared names

-- what is so of the domain of a name that has one without a fault
pub record HasDomain (sizes : List ℕ) (o : Option Choice) : Type 0 where
  pub is : IsDomain sizes (domain_or o)
  pub proper : IsProper (form_of_domain (domain_or o))

module _ (v v' : View) (names more : Names) (sizes : List ℕ) (stays : Stays names more) (knows : KnowsSets sizes names) (f : RawFormulaTree) where
  pub has_domain : (x : RawName) → Clean (domain_faults (found x.text (domains_from v names [] f)) x.place) → HasDomain sizes (found x.text (domains_from v names [] f))
  has_domain x h = by (found x.text (domains_from v names [] f)) refl h
    where
      sized : (c : Choice) → (None ≡ Some c) ⊎ IsSized sizes c.domain c.size → IsSized sizes c.domain c.size
      sized c (inl e) = let no : ⊥ = cc in absurd no
      sized c (inr s) = s

      by : (o : Option Choice) → found x.text (domains_from v names [] f) ≡ o → Clean (domain_faults o x.place) → HasDomain sizes o
      by None e h = absurd h.0
      by (Some c) e h = let w = is_whole sizes c x.place (sized c (domains_sized v names sizes knows x.text f [] c e)) h in record { is = w.0; proper = w.1 }

  -- the names have domains, and the formula their conjuncts
  pub gives_domains : (xs : List RawName) → ((x : RawName) → Has xs x → Clean (domain_faults (found x.text (domains_from v names [] f)) x.place)) → ((x : RawName) → Has xs x → named (length more) x.text (found x.text more) ≡ Var (written x.text)) →
      GivesDomains sizes (map (declared_name (domains_from v names [] f)) xs) (formula_in v' more f)
  unfolding declared_name
  gives_domains [] h n = tt
  gives_domains (x ∷ xs) h n =
      ((has_domain x (h x (inl refl))).is, conj (found x.text (domains_from v names [] f)) refl (h x (inl refl)), gives_domains xs (λ y m. h y (inr m)) (λ y m. n y (inr m)))
    where
      conj : (o : Option Choice) → found x.text (domains_from v names [] f) ≡ o → Clean (domain_faults o x.place) → HasConjunct (typing (Var (written x.text)) (domain_or o)) (formula_in v' more f)
      conj None e h = absurd h.0
      conj (Some c) e h = last (domains_have v v' names more stays x.text (Var (written x.text)) (n x (inl refl)) f [] c e)
        where
          last : (None ≡ Some c) ⊎ HasConjunct (typing (Var (written x.text)) c.domain) (formula_in v' more f) → HasConjunct (typing (Var (written x.text)) c.domain) (formula_in v' more f)
          last (inl e) = let no : ⊥ = cc in absurd no
          last (inr q) = q
