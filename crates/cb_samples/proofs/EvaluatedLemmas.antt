-- The formulas and terms of the tests are typed.
use Rattle.std.proofs.Common.{◌≡◌, ℕ, ◌^◌, ℤ, pos, neg_ℤ, ◌≤ℤ◌, List, [], map, length, refl, sym, subst, arith}
use Rattle.std.proofs.lemmas.Int.{ints}
use Rattle.cb_term.specs.declared.kind.Domain.TheVariants as domain
use Rattle.cb_term.specs.declared.sign.TermSign.TheVariants.{Add}
use Rattle.cb_term.specs.declared.table.SetNames.{SetNames}
use Rattle.cb_term.specs.declared.table.SetTable.{SetTable}
use Rattle.cb_term.specs.Table.{sizes_of}
use Rattle.cb_term.specs.Tree.{Num, Bin}
use Rattle.cb_term.specs.Values.{Look}
use Rattle.cb_samples.specs.Evaluated.{every_number_to}
use Rattle.cb_eval.specs.TypedIn.{AreSmallSets, TypedIn, TypedTermIn}

pub no_sets : (table : SetTable) → table.sets.items ≡ [] → AreSmallSets (sizes_of table)
no_sets table e = subst (λ sets. AreSmallSets (map (λ (s : SetNames). length s.elements) sets)) (sym e) (λ set. omega arith)

pub every_typed : (sizes : List ℕ) (look : Look) (last : ℤ) → AreSmallSets sizes → neg_ℤ (pos (2 ^ 62)) ≤ℤ last → last ≤ℤ pos (2 ^ 62) → TypedIn sizes look (every_number_to last)
every_typed sizes look last few low high = record {
  scope = [];
  taken = [];
  agrees = λ x f e. cc;
  small_sets = few;
  typed = (
    domain.Range (pos 0) (pos 65535),
    (
      refl,
      refl,
      (omega (arith, ints), tt),
      omega (arith, ints),
      (refl, refl),
      (
        ((omega (arith, ints), omega (arith, ints)), ((omega (arith, ints), omega (arith, ints)), (omega (arith, ints), omega (arith, ints)), tt), refl),
        ((omega (arith, ints), omega (arith, ints)), (low, high), refl),
      ),
    ),
  );
}

pub sum_typed : (sizes : List ℕ) (look : Look) → AreSmallSets sizes → TypedTermIn sizes look (Bin Add (Num (pos 2)) (Num (pos 3)))
sum_typed sizes look few = record {
  scope = [];
  taken = [];
  agrees = λ x f e. cc;
  small_sets = few;
  typed = ((omega (arith, ints), omega (arith, ints)), (omega (arith, ints), omega (arith, ints)), (omega (arith, ints), omega (arith, ints)));
}
