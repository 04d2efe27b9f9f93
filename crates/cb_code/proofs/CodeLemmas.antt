-- Lists of nodes, and the processes that they stand for.
use Rattle.std.proofs.Common.{◌≡◌, ℕ, zero, suc, ◌+◌, ◌<◌, take, drop, List, [], ◌∷◌, ◌++◌, length, slice_get, get_or, Some, unwrap_or, refl, sym, ap, subst, ◌∙◌, arith, length-append, append_assoc, append-nil}
use Rattle.std.proofs.lemmas.List.{take-append-drop, length-take-le}
use Rattle.std.proofs.Math.Seq.{take-append_seam}
use Rattle.std.proofs.lemmas.Option.{slice_get_within}
use Rattle.cb_spec.specs.ProcessTree.{ProcessTree}
use Rattle.cb_spec.specs.ProcessTree as tree
use Rattle.cb_code.specs.declared.code.Node.{Node}
use Rattle.cb_code.specs.declared.code.Node.TheVariants.{Stop, Skip, Call, Prefix, Choice, Internal, If}
use Rattle.cb_code.specs.Nodes.{part, tree_of, trees_on, trees, PartsBelow, Falls, Extends}

-- ---- lists that go on

pub get_kept : {A : Type 0} (xs more : List A) (k : ℕ) → k < length xs → slice_get (xs ++ more) k ≡ slice_get xs k
get_kept [] more k l = absurd (omega (arith, l))
get_kept (x ∷ xs) more zero l = refl
get_kept (x ∷ xs) more (suc k) l = get_kept xs more k (omega (arith, l))

pub get_last : {A : Type 0} (xs : List A) (x : A) → slice_get (xs ++ x ∷ []) (length xs) ≡ Some x
get_last [] x = refl
get_last (y ∷ xs) x = get_last xs x

pub still_at : {A : Type 0} (old new more : List A) (k : ℕ) (x : A) → new ≡ old ++ more → slice_get old k ≡ Some x → slice_get new k ≡ Some x
still_at old new more k x is at = ap (λ l. slice_get l k) is ∙ get_kept old more k (slice_get_within old k x at) ∙ at

pub extends_all : (a b c : List ProcessTree) → Extends a b → Extends b c → Extends a c
extends_all a b c e f = (e.0 ++ f.0, f.1 ∙ ap (λ l. l ++ f.0) e.1 ∙ append_assoc a e.0 f.0)

-- ---- nodes

part_kept : (ps more : List ProcessTree) (k : ℕ) → k < length ps → part (ps ++ more) k ≡ part ps k
part_kept ps more k l = ap (λ o. unwrap_or o tree.Stop) (get_kept ps more k l)

tree_kept : (ps more : List ProcessTree) (n : Node) → PartsBelow (length ps) n → tree_of (ps ++ more) n ≡ tree_of ps n
tree_kept ps more Stop b = refl
tree_kept ps more Skip b = refl
tree_kept ps more (Call d ts) b = refl
tree_kept ps more (Prefix e j) b = ap (tree.Prefix e) (part_kept ps more j b)
tree_kept ps more (Choice j k) b = λ i. tree.Choice (part_kept ps more j b.0 i) (part_kept ps more k b.1 i)
tree_kept ps more (Internal j k) b = λ i. tree.Internal (part_kept ps more j b.0 i) (part_kept ps more k b.1 i)
tree_kept ps more (If f j k) b = λ i. tree.If f (part_kept ps more j b.0 i) (part_kept ps more k b.1 i)

pub trees_snoc : (ps : List ProcessTree) (ns : List Node) (n : Node) → trees_on ps (ns ++ n ∷ []) ≡ trees_on ps ns ++ tree_of (trees_on ps ns) n ∷ []
trees_snoc ps [] n = refl
trees_snoc ps (m ∷ ns) n = trees_snoc (ps ++ tree_of ps m ∷ []) ns n

trees_extend : (ps : List ProcessTree) (ns : List Node) → Extends ps (trees_on ps ns)
trees_extend ps [] = ([], sym (append-nil ps))
trees_extend ps (n ∷ ns) = extends_all ps (ps ++ tree_of ps n ∷ []) (trees_on ps (n ∷ ns)) (tree_of ps n ∷ [], refl) (trees_extend (ps ++ tree_of ps n ∷ []) ns)

length_on : (ps : List ProcessTree) (ns : List Node) → length (trees_on ps ns) ≡ length ps + length ns
length_on ps [] = omega arith
length_on ps (n ∷ ns) = omega (arith, length_on (ps ++ tree_of ps n ∷ []) ns, length-append ps (tree_of ps n ∷ []))

pub trees_length : (ns : List Node) → length (trees ns) ≡ length ns
trees_length ns = omega (arith, length_on [] ns)

pub falls_snoc : (k : ℕ) (ns : List Node) (n : Node) → Falls k ns → PartsBelow (k + length ns) n → Falls k (ns ++ n ∷ [])
falls_snoc k [] n f b = (subst (λ m. PartsBelow m n) {x = k + 0} {y = k} (omega arith) b, tt)
falls_snoc k (m ∷ ns) n f b = (f.0, falls_snoc (suc k) ns n f.1 (subst (λ m. PartsBelow m n) {x = k + suc (length ns)} {y = suc k + length ns} (omega arith) b))

-- what is said of the node at a place
abbrev IsNode : List ProcessTree → ℕ → Node → Type 0
IsNode ps k n = (slice_get ps k ≡ Some (tree_of ps n)) × PartsBelow k n

node_on : (ps : List ProcessTree) (ns : List Node) (k : ℕ) (d : Node) → Falls (length ps) ns → k < length ns → IsNode (trees_on ps ns) (length ps + k) (get_or ns k d)
node_on ps [] k d f l = absurd (omega (arith, l))
node_on ps (n ∷ ns) zero d f l =
    let next = ps ++ tree_of ps n ∷ [] in
    let e = trees_extend next ns in
    let at : slice_get (trees_on next ns) (length ps) ≡ Some (tree_of ps n) = still_at next (trees_on next ns) e.0 (length ps) (tree_of ps n) e.1 (get_last ps (tree_of ps n)) in
    let whole : trees_on next ns ≡ ps ++ ((tree_of ps n ∷ []) ++ e.0) = e.1 ∙ append_assoc ps (tree_of ps n ∷ []) e.0 in
    let same : tree_of (trees_on next ns) n ≡ tree_of ps n = ap (λ l. tree_of l n) whole ∙ tree_kept ps ((tree_of ps n ∷ []) ++ e.0) n f.0 in
    subst (λ j. IsNode (trees_on next ns) j n) {x = length ps} {y = length ps + 0} (omega arith) (at ∙ ap Some (sym same), f.0)
node_on ps (n ∷ ns) (suc k) d f l =
    let next = ps ++ tree_of ps n ∷ [] in
    let long : length next ≡ suc (length ps) = omega (arith, length-append ps (tree_of ps n ∷ [])) in
    let rest = node_on next ns k d (subst (λ m. Falls m ns) (sym long) f.1) (omega (arith, l)) in
    subst (λ j. IsNode (trees_on next ns) j (get_or ns k d)) {x = length next + k} {y = length ps + suc k} (omega (arith, long)) rest

pub node_at : (ns : List Node) (k : ℕ) (d : Node) → Falls 0 ns → k < length ns → IsNode (trees ns) k (get_or ns k d)
node_at ns k d f l = subst (λ j. IsNode (trees ns) j (get_or ns k d)) {x = 0 + k} {y = k} (omega arith) (node_on [] ns k d f l)

-- ---- what was laid down

pub part_is : (ps : List ProcessTree) (k : ℕ) (p : ProcessTree) → slice_get ps k ≡ Some p → part ps k ≡ p
part_is ps k p at = ap (λ o. unwrap_or o tree.Stop) at

module _ (old new : List Node) (self : List ProcessTree) (n : Node) (view : trees old ≡ self) (falls : Falls 0 old) (below : PartsBelow (length self) n) (is : new ≡ old ++ n ∷ []) where
  pub pushed_falls : Falls 0 new
  pushed_falls =
      let b : PartsBelow (0 + length old) n = subst (λ m. PartsBelow m n) {x = length self} {y = 0 + length old} (let a = ap length view in let e = trees_length old in omega (arith, a, e)) below in
      subst (Falls 0) (sym is) (falls_snoc 0 old n falls b)

  pub pushed_is : trees new ≡ self ++ tree_of self n ∷ []
  pushed_is = ap trees is ∙ trees_snoc [] old n ∙ ap (λ ps. ps ++ tree_of ps n ∷ []) view

  pub pushed_at : (k : ℕ) → k ≡ length old → slice_get (trees new) k ≡ Some (tree_of self n)
  pushed_at k at =
      ap (λ ps. slice_get ps k) pushed_is ∙ subst (λ j. slice_get (self ++ tree_of self n ∷ []) j ≡ Some (tree_of self n)) (sym (ap length view) ∙ trees_length old ∙ sym at) (get_last self (tree_of self n))

module _ (ns : List Node) (self : List ProcessTree) (view : trees ns ≡ self) (falls : Falls 0 ns) where
  pub within : (k : ℕ) → k < length self → k < length ns
  within k l = subst (λ m. k < m) (sym (ap length view) ∙ trees_length ns) l

  pub node_is : (k : ℕ) (n : Node) → k < length self → n ≡ get_or ns k n → slice_get self k ≡ Some (tree_of self n)
  node_is k n l is = subst (λ ps. slice_get ps k ≡ Some (tree_of ps n)) view (subst (λ m. slice_get (trees ns) k ≡ Some (tree_of (trees ns) m)) (sym is) (node_at ns k n falls (within k l)).0)

  pub node_below : (k : ℕ) (n : Node) → k < length self → n ≡ get_or ns k n → PartsBelow k n
  node_below k n l is = subst (PartsBelow k) (sym is) (node_at ns k n falls (within k l)).1

-- ---- what is cut back to what was there before

trees_append : (ps : List ProcessTree) (ms ns : List Node) → trees_on ps (ms ++ ns) ≡ trees_on (trees_on ps ms) ns
trees_append ps [] ns = refl
trees_append ps (m ∷ ms) ns = trees_append (ps ++ tree_of ps m ∷ []) ms ns

same_front : {A : Type 0} (xs ys us vs : List A) → xs ++ us ≡ ys ++ vs → length xs ≡ length ys → xs ≡ ys
same_front xs ys us vs e long =
    sym (take-append_seam xs us) ∙ (λ i. take (long i) (e i)) ∙ take-append_seam ys vs

falls_take : (n k : ℕ) (ns : List Node) → Falls k ns → Falls k (take n ns)
falls_take zero k ns f = tt
falls_take (suc n) k [] f = tt
falls_take (suc n) k (m ∷ ns) f = (f.0, falls_take n (suc k) ns f.1)

module _ (before now kept : List Node) (old new : List ProcessTree) (n : ℕ) (old_is : trees before ≡ old) (view : trees now ≡ new) (falls : Falls 0 now) (more : Extends old new) (long : n ≡ length before) (is : kept ≡ take n now) where
  pub cut_falls : Falls 0 kept
  cut_falls = subst (Falls 0) (sym is) (falls_take n 0 now falls)

  pub cut_trees : trees kept ≡ old
  cut_trees =
      let front = take n now in
      let rest = trees_extend (trees front) (drop n now) in
      let whole : trees now ≡ trees front ++ rest.0 = ap trees (sym (take-append-drop n now)) ∙ trees_append [] front (drop n now) ∙ rest.1 in
      let fits : length front ≡ n = length-take-le n now (let a = ap length (view ∙ more.1) in let b = length-append old more.0 in let c = ap length old_is in let d = trees_length before in let e = trees_length now in omega (arith, a, b, c, d, e, long)) in
      let same : length (trees front) ≡ length old = (let c = ap length old_is in let d = trees_length before in let e = trees_length front in omega (arith, c, d, e, fits, long)) in
      ap trees is ∙ same_front (trees front) old rest.0 more.0 (sym whole ∙ view ∙ more.1) same
