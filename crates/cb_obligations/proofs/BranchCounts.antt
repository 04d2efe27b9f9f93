-- How many branches a substitution has.
use Rattle.std.proofs.Common.{◌≡◌, ℕ, suc, ◌+◌, ◌*◌, List, [], ◌∷◌, map, flat_map, length, refl, ap, ◌∙◌, arith}
use Rattle.std.proofs.lemmas.List.{length-append, length-map}
use Rattle.cb_term.specs.declared.name.Name.{Name}
use Rattle.cb_term.specs.Tree as tree
use Rattle.cb_spec.specs.Domains.{kind_of_domain}
use Rattle.cb_spec.specs.SubstTree.{SubstTree, Skip, Assign, Together, Choice, If, AnyOf, SubstTrees, End, More}
use Rattle.cb_obligations.specs.Branches.{Branch, numbered, opened, binds, guarded, bound_branch, joined_branch, branches_from, branches_of_each}
use Rattle.cb_obligations.specs.Counts.{branch_count, branch_counts}

one_more : (m n : ℕ) → suc m * n ≡ n + m * n
one_more m n = omega arith

same_lengths : (f : Branch → List Branch) (n : ℕ) → ((b : Branch) → length (f b) ≡ n) → (bs : List Branch) → length (flat_map f bs) ≡ length bs * n
same_lengths f n h [] = omega arith
same_lengths f n h (b ∷ bs) = length-append (f b) (flat_map f bs) ∙ omega (arith, h b, same_lengths f n h bs, one_more (length bs) n)

mutual
  pub branches_count : (s : SubstTree) (k : ℕ) (scope : List Name) → length (branches_from k scope s) ≡ branch_count s
  branches_count Skip k scope = refl
  branches_count (Assign x e) k scope = refl
  branches_count (Together a b) k scope =
      same_lengths (λ p. map (joined_branch p) (branches_from (k + binds p.items) scope b)) (branch_count b)
      (λ p. length-map (branches_from (k + binds p.items) scope b) (joined_branch p) ∙ branches_count b (k + binds p.items) scope) (branches_from k scope a)
      ∙ ap (λ n. n * branch_count b) (branches_count a k scope)
  branches_count (Choice ss) k scope = branches_counts ss k scope
  branches_count (If p a b) k scope =
      length-append (map (guarded (opened scope p)) (branches_from k scope a)) (map (guarded (tree.Not (opened scope p))) (branches_from k scope b))
      ∙ omega (
        arith,
        length-map (branches_from k scope a) (guarded (opened scope p)),
        length-map (branches_from k scope b) (guarded (tree.Not (opened scope p))),
        branches_count a k scope,
        branches_count b k scope,
      )
  branches_count (AnyOf z domain p s) k scope =
      length-map (branches_from (k + 1) (numbered z (k + 1) ∷ scope) s) (bound_branch (numbered z (k + 1)) (kind_of_domain domain) (opened (numbered z (k + 1) ∷ scope) p))
      ∙ branches_count s (k + 1) (numbered z (k + 1) ∷ scope)

  pub branches_counts : (ss : SubstTrees) (k : ℕ) (scope : List Name) → length (branches_of_each k scope ss) ≡ branch_counts ss
  branches_counts End k scope = refl
  branches_counts (More s ss) k scope =
      length-append (branches_from k scope s) (branches_of_each k scope ss) ∙ omega (arith, branches_count s k scope, branches_counts ss k scope)
