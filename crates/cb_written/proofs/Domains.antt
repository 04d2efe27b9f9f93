-- Domains and bounds.
use Rattle.std.specs.Prelude.{◌≡◌, List, [], ◌∷◌, ◌++◌, refl}
use Rattle.std.proofs.Common.{inl, inr, append_assoc}
use Rattle.cb_lex.specs.declared.token.Keyword.TheVariants as keyword
use Rattle.cb_lex.specs.declared.token.Sign.TheVariants as sign
use Rattle.cb_engine.specs.declared.Symbol.{Symbol}
use Rattle.cb_engine.specs.declared.Symbol.TheVariants.{Take, Keep, Act, Part}
use Rattle.cb_engine.specs.declared.Terminal.{Terminal}
use Rattle.cb_engine.specs.declared.Item.{Item}
use Rattle.cb_engine.specs.Lines.{alternatives, OneOf, NoThen, Among}
use Rattle.cb_grammar.specs.declared.table.TheConstants.{GRAMMAR}
use Rattle.cb_grammar.specs.declared.actions.TheConstants as action
use Rattle.cb_grammar.specs.Classes.{keyword_class, sign_class}
use Rattle.cb_grammar.specs.Numbers as part
use Rattle.cb_written.specs.Substitutions.{DomainLine, end_lines, BoundLine}
use Rattle.cb_written.specs.Substitutions.DomainLine.{range, naturals, positives, integers, truths, named}
use Rattle.cb_written.specs.Substitutions.BoundLine.{bound, minus}
use Rattle.cb_written.proofs.Pieces.{Run, Into, Read, Means, take_no_then, act_no_then, among_no_then, act_first, act_last, under, open_part, close_part, expand, contract}

abbrev up_to : List Symbol
up_to = Take (sign_class sign.UpTo) ∷ Part part.bound ∷ Act action.RANGE ∷ []

abbrev minus_sign : Symbol
minus_sign = Take (sign_class sign.Minus)

-- an end that is a name, or another
abbrev ends_of : List (List Symbol)
ends_of = (Keep 1 ∷ Act action.NAME_END ∷ []) ∷ (Part part.other_end ∷ []) ∷ []

abbrev other_ends : List (List Symbol)
other_ends = (Keep 2 ∷ Act action.NUMBER_END ∷ []) ∷ (Keep (keyword_class keyword.MaxInt) ∷ Act action.LIMIT_END ∷ []) ∷ (Keep (keyword_class keyword.MinInt) ∷ Act action.LIMIT_END ∷ []) ∷ []

abbrev bounds : List (List Symbol)
bounds = (minus_sign ∷ Part part.end ∷ Act action.MINUS_BOUND ∷ []) ∷ (Part part.end ∷ Act action.BOUND ∷ []) ∷ []

abbrev other_bounds : List (List Symbol)
other_bounds = (minus_sign ∷ Part part.end ∷ Act action.MINUS_BOUND ∷ []) ∷ (Part part.other_end ∷ Act action.BOUND ∷ []) ∷ []

abbrev named_rests : List (List Symbol)
named_rests = (Take (sign_class sign.UpTo) ∷ Act action.NAME_END ∷ Act action.BOUND ∷ Part part.bound ∷ Act action.RANGE ∷ []) ∷ (Act action.NAMED_DOMAIN ∷ []) ∷ []

abbrev domains : List (List Symbol)
domains =
    (Keep (keyword_class keyword.Nat) ∷ Act action.SET_DOMAIN ∷ []) ∷ (Keep (keyword_class keyword.Nat1) ∷ Act action.SET_DOMAIN ∷ []) ∷
    (Keep (keyword_class keyword.Int) ∷ Act action.SET_DOMAIN ∷ []) ∷ (Keep (keyword_class keyword.Truths) ∷ Act action.SET_DOMAIN ∷ []) ∷
    (Keep 1 ∷ Part part.domain_rest ∷ []) ∷ (Part part.other_bound ∷ up_to) ∷ []

-- the table's lines, one after the other
end_alternatives : alternatives GRAMMAR part.end ≡ (Part part.other_end ∷ []) ∷ (Keep 1 ∷ Act action.NAME_END ∷ []) ∷ []
end_alternatives = refl

other_end_lines : alternatives GRAMMAR part.other_end ≡ other_ends
other_end_lines = refl

bound_lines : alternatives GRAMMAR part.bound ≡ bounds
bound_lines = refl

other_bound_lines : alternatives GRAMMAR part.other_bound ≡ other_bounds
other_bound_lines = refl

named_rest_lines : alternatives GRAMMAR part.domain_rest ≡ named_rests
named_rest_lines = refl

domain_lines : alternatives GRAMMAR part.domain ≡ domains
domain_lines = refl

-- ends

end_reads : (u k : List Symbol) (ts : List Terminal) (out : List Item) → Run (u ++ (Part part.end ∷ k)) ts out → (e : List Symbol) × (Among end_lines e × Run (u ++ (e ++ k)) ts out)
end_reads u k ts out m = go (expand part.end _ end_alternatives u k ts out m)
  where
    other : (p : List Symbol) × (Among other_ends p × Run (u ++ (p ++ k)) ts out) → (e : List Symbol) × (Among end_lines e × Run (u ++ (e ++ k)) ts out)
    other (p, (inl e, m)) = (p, (inl e, m))
    other (p, (inr (inl e), m)) = (p, (inr (inl e), m))
    other (p, (inr (inr (inl e)), m)) = (p, (inr (inr (inl e)), m))
    other (p, (inr (inr (inr e)), m)) = absurd e

    go : (p : List Symbol) × (Among ((Part part.other_end ∷ []) ∷ (Keep 1 ∷ Act action.NAME_END ∷ []) ∷ []) p × Run (u ++ (p ++ k)) ts out) → (e : List Symbol) × (Among end_lines e × Run (u ++ (e ++ k)) ts out)
    go (p, (inl e, m)) = other (expand part.other_end other_ends other_end_lines u k ts out (rw e at m))
    go (p, (inr (inl e), m)) = (p, (inr (inr (inr (inl e))), m))
    go (p, (inr (inr e), m)) = absurd e

of_other : (e k : List Symbol) → Among other_ends e → Into (e ++ k) (Part part.end ∷ k)
of_other e k a ts out m = close_part part.end _ end_alternatives k ts out (inl (contract part.other_end other_ends other_end_lines [] e k a (among_no_then other_ends refl e k a) ts out m))

of_end : (e k : List Symbol) → Among end_lines e → Into (e ++ k) (Part part.end ∷ k)
of_end e k (inl q) ts out m = of_other e k (inl q) ts out m
of_end e k (inr (inl q)) ts out m = of_other e k (inr (inl q)) ts out m
of_end e k (inr (inr (inl q))) ts out m = of_other e k (inr (inr (inl q))) ts out m
of_end e k (inr (inr (inr (inl q)))) ts out m = close_part part.end _ end_alternatives k ts out (inr (inl (rw q at m)))
of_end e k (inr (inr (inr (inr q)))) ts out m = absurd q

-- bounds

bound_reads : (k : List Symbol) (ts : List Terminal) (out : List Item) → Run (Part part.bound ∷ k) ts out → Read BoundLine k ts out
bound_reads k ts out m = go (open_part part.bound bounds bound_lines k ts out m)
  where
    go : OneOf (λ a. Run (a ++ k) ts out) bounds → Read BoundLine k ts out
    go (inl p) =
        let q = end_reads (minus_sign ∷ []) (Act action.MINUS_BOUND ∷ k) ts out p in
        (minus_sign ∷ q.0 ++ Act action.MINUS_BOUND ∷ [], (minus q.0 q.1.0, rw (append_assoc q.0 (Act action.MINUS_BOUND ∷ []) k) q.1.1))
    go (inr (inl p)) =
        let q = end_reads [] (Act action.BOUND ∷ k) ts out p in
        (q.0 ++ Act action.BOUND ∷ [], (bound q.0 q.1.0, rw (append_assoc q.0 (Act action.BOUND ∷ []) k) q.1.1))
    go (inr (inr p)) = absurd p

bound_spells : (w : List Symbol) → BoundLine w → (k : List Symbol) → NoThen k → Into (w ++ k) (Part part.bound ∷ k)
bound_spells w (bound e a) k free ts out m = close_part part.bound bounds bound_lines k ts out (inr (inl (of_end e (Act action.BOUND ∷ k) a ts out (rw (append_assoc e (Act action.BOUND ∷ []) k) at m))))
bound_spells w (minus e a) k free ts out m =
    let p : Run (minus_sign ∷ (e ++ (Act action.MINUS_BOUND ∷ k))) ts out = rw (append_assoc e (Act action.MINUS_BOUND ∷ []) k) at m in
    close_part part.bound bounds bound_lines k ts out (inl (under (minus_sign ∷ []) (e ++ (Act action.MINUS_BOUND ∷ k)) (Part part.end ∷ Act action.MINUS_BOUND ∷ k) (among_no_then end_lines refl e (Act action.MINUS_BOUND ∷ k) a) (of_end e (Act action.MINUS_BOUND ∷ k) a) ts out p))

pub bound_means : Means part.bound BoundLine
bound_means = record { reads = bound_reads; spells = bound_spells }

-- domains

-- a name's actions stand before the sign or behind it
acts_first : (c a b : _) (k : List Symbol) → Into (Take c ∷ Act a ∷ Act b ∷ k) (Act a ∷ Act b ∷ Take c ∷ k)
acts_first c a b k ts out m = under (Act a ∷ []) (Take c ∷ Act b ∷ k) (Act b ∷ Take c ∷ k) (take_no_then _ _) (act_first c b k) ts out (act_first c a (Act b ∷ k) ts out m)

acts_last : (c a b : _) (k : List Symbol) → Into (Act a ∷ Act b ∷ Take c ∷ k) (Take c ∷ Act a ∷ Act b ∷ k)
acts_last c a b k ts out m = act_last c a (Act b ∷ k) ts out (under (Act a ∷ []) (Act b ∷ Take c ∷ k) (Take c ∷ Act b ∷ k) (act_no_then _ _) (act_last c b k) ts out m)

domain_reads : (k : List Symbol) (ts : List Terminal) (out : List Item) → Run (Part part.domain ∷ k) ts out → Read DomainLine k ts out
domain_reads k ts out m = go (open_part part.domain domains domain_lines k ts out m)
  where
    of_bound : OneOf (λ a. Run (a ++ (up_to ++ k)) ts out) bounds → Read DomainLine k ts out
    of_bound o = (Part part.bound ∷ up_to, (range, close_part part.bound bounds bound_lines (up_to ++ k) ts out o))

    with_end : OneOf (λ a. Run (a ++ (Act action.BOUND ∷ (up_to ++ k))) ts out) ((Part part.other_end ∷ []) ∷ (Keep 1 ∷ Act action.NAME_END ∷ []) ∷ []) → Read DomainLine k ts out
    with_end o = of_bound (inr (inl (close_part part.end _ end_alternatives (Act action.BOUND ∷ (up_to ++ k)) ts out o)))

    with_name : (p : List Symbol) × (Among named_rests p × Run (Keep 1 ∷ (p ++ k)) ts out) → Read DomainLine k ts out
    with_name (p, (inl e, m)) = with_end (inr (inl (under (Keep 1 ∷ []) _ _ (take_no_then _ _) (acts_first (sign_class sign.UpTo) action.NAME_END action.BOUND (Part part.bound ∷ Act action.RANGE ∷ k)) ts out (rw e at m))))
    with_name (p, (inr (inl e), m)) = (_, (named, rw e at m))
    with_name (p, (inr (inr e), m)) = absurd e

    go : OneOf (λ a. Run (a ++ k) ts out) domains → Read DomainLine k ts out
    go (inl p) = (_, (naturals, p))
    go (inr (inl p)) = (_, (positives, p))
    go (inr (inr (inl p))) = (_, (integers, p))
    go (inr (inr (inr (inl p)))) = (_, (truths, p))
    go (inr (inr (inr (inr (inl p))))) = with_name (expand part.domain_rest named_rests named_rest_lines (Keep 1 ∷ []) k ts out p)
    go (inr (inr (inr (inr (inr (inl p)))))) = other (open_part part.other_bound other_bounds other_bound_lines (up_to ++ k) ts out p)
      where
        other : OneOf (λ a. Run (a ++ (up_to ++ k)) ts out) other_bounds → Read DomainLine k ts out
        other (inl q) = of_bound (inl q)
        other (inr (inl q)) = with_end (inl q)
        other (inr (inr q)) = absurd q
    go (inr (inr (inr (inr (inr (inr p)))))) = absurd p

of_domain : (k : List Symbol) (ts : List Terminal) (out : List Item) → OneOf (λ a. Run (a ++ k) ts out) domains → Run (Part part.domain ∷ k) ts out
of_domain k ts out o = close_part part.domain domains domain_lines k ts out o

of_name : (p k : List Symbol) → Among named_rests p → NoThen (p ++ k) → Into (Keep 1 ∷ (p ++ k)) (Part part.domain ∷ k)
of_name p k a free ts out m = of_domain k ts out (inr (inr (inr (inr (inl (contract part.domain_rest named_rests named_rest_lines (Keep 1 ∷ []) p k a free ts out m))))))

range_spells : (k : List Symbol) (ts : List Terminal) (out : List Item) → OneOf (λ a. Run (a ++ (up_to ++ k)) ts out) bounds → Run (Part part.domain ∷ k) ts out
range_spells k ts out (inl p) = of_domain k ts out (inr (inr (inr (inr (inr (inl (close_part part.other_bound other_bounds other_bound_lines (up_to ++ k) ts out (inl p))))))))
range_spells k ts out (inr (inl p)) = go (open_part part.end _ end_alternatives (Act action.BOUND ∷ (up_to ++ k)) ts out p)
  where
    go : OneOf (λ a. Run (a ++ (Act action.BOUND ∷ (up_to ++ k))) ts out) ((Part part.other_end ∷ []) ∷ (Keep 1 ∷ Act action.NAME_END ∷ []) ∷ []) → Run (Part part.domain ∷ k) ts out
    go (inl q) = of_domain k ts out (inr (inr (inr (inr (inr (inl (close_part part.other_bound other_bounds other_bound_lines (up_to ++ k) ts out (inr (inl q)))))))))
    go (inr (inl q)) =
        of_name (Take (sign_class sign.UpTo) ∷ Act action.NAME_END ∷ Act action.BOUND ∷ Part part.bound ∷ Act action.RANGE ∷ []) k (inl refl) (take_no_then _ _) ts out
        (under (Keep 1 ∷ []) _ _ (act_no_then _ _) (acts_last (sign_class sign.UpTo) action.NAME_END action.BOUND (Part part.bound ∷ Act action.RANGE ∷ k)) ts out q)
    go (inr (inr q)) = absurd q
range_spells k ts out (inr (inr p)) = absurd p

domain_spells : (w : List Symbol) → DomainLine w → (k : List Symbol) → NoThen k → Into (w ++ k) (Part part.domain ∷ k)
domain_spells w range k free ts out m = range_spells k ts out (open_part part.bound bounds bound_lines (up_to ++ k) ts out m)
domain_spells w naturals k free ts out m = of_domain k ts out (inl m)
domain_spells w positives k free ts out m = of_domain k ts out (inr (inl m))
domain_spells w integers k free ts out m = of_domain k ts out (inr (inr (inl m)))
domain_spells w truths k free ts out m = of_domain k ts out (inr (inr (inr (inl m))))
domain_spells w named k free ts out m = of_name (Act action.NAMED_DOMAIN ∷ []) k (inr (inl refl)) (act_no_then _ _) ts out m

pub domain_means : Means part.domain DomainLine
domain_means = record { reads = domain_reads; spells = domain_spells }
