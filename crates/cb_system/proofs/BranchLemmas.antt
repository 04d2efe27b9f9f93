-- Branches that controllers offer: as code finds them, and as the state has them.
use Rattle.std.proofs.Common.{◌≡◌, ℕ, zero, suc, ◌<◌, List, [], ◌∷◌, length, slice_get, get_or, Option, Some, None, unwrap_or, ◌⊎◌, inl, inr, refl, sym, ap, subst, ◌∙◌, arith}
use Rattle.std.proofs.lemmas.Option.{slice_get_within, get_or_from_slice_get}
use Rattle.cb_spec.specs.declared.event.Event.{Event}
use Rattle.cb_spec.specs.ProcessTree.{ProcessTree, Stop}
use Rattle.cb_spec.specs.Stores.{Writes, look_of}
use Rattle.cb_spec.specs.States.{IsAt, BranchView, Offering, control_of, state_of}
use Rattle.cb_safety_laws.specs.Causes.{Offers}
use Rattle.cb_safety_laws.proofs.Lists.{at_map, two_at}
use Rattle.cb_code.specs.declared.place.Place.{Place}
use Rattle.cb_code.specs.declared.place.Place.TheVariants.{At, Ready, Ended}
use Rattle.cb_code.specs.declared.code.Node.{Node}
use Rattle.cb_code.specs.declared.code.Node.TheVariants as node
use Rattle.cb_code.specs.Nodes.{part, tree_of, PartsBelow}
use Rattle.cb_code.proofs.CodeLemmas.{part_is}
use Rattle.cb_settling.specs.Branches.{IsPrefix, ArePrefixes, offered, branches_at}
use Rattle.cb_beginning.specs.Placed.{tree_control, state_in}
use Rattle.cb_system.specs.Branches.{AreOffered, HasBranch, IsShown, IsBranch}
use Rattle.cb_system.proofs.PlaceLemmas.{seen, ready_seen, get_map, control_at}

-- ---- as code finds them

pub prefix_at : (ps : List ProcessTree) (ks : List ℕ) (b k : ℕ) → ArePrefixes ps ks → IsAt ks b k → IsPrefix (part ps k)
prefix_at ps [] b k h at = absurd (cc)
prefix_at ps (j ∷ ks) zero k h at = subst (λ n. IsPrefix (part ps n)) (ap (λ o. unwrap_or o j) at) h.0
prefix_at ps (j ∷ ks) (suc b) k h at = prefix_at ps ks b k h.1 at

pub prefix_within : (ps : List ProcessTree) (k : ℕ) → IsPrefix (part ps k) → k < length ps
prefix_within ps k h = by (slice_get ps k) refl h
  where
    by : (o : Option ProcessTree) → slice_get ps k ≡ o → IsPrefix (unwrap_or o Stop) → k < length ps
    by None e h = absurd h
    by (Some p) e h = slice_get_within ps k p e

-- a place that offers is no other
pub ready_apart : (p : Place) (ks : List ℕ) (env : Writes) → p ≡ Ready ks env → ((k : ℕ) × (old : Writes) × (p ≡ At k old)) ⊎ (p ≡ Ended) → ⊥
ready_apart p ks env is (inl h) = let e : Ready ks env ≡ At h.0 h.1 = sym is ∙ h.2 in cc
ready_apart p ks env is (inr h) = let e : Ready ks env ≡ Ended = sym is ∙ h in cc

-- a node whose process is a prefix is one
pub node_apart : (ps : List ProcessTree) (n : Node) → IsPrefix (tree_of ps n) → ((e : Event) (j : ℕ) → n ≡ node.Prefix e j → ⊥) → ⊥
node_apart ps node.Stop h other = h
node_apart ps node.Skip h other = h
node_apart ps (node.Call k ts) h other = h
node_apart ps (node.Prefix e j) h other = other e j refl
node_apart ps (node.Choice j k) h other = h
node_apart ps (node.Internal j k) h other = h
node_apart ps (node.If f j k) h other = h

module _ (ps : List ProcessTree) (places : List Place) (i b : ℕ) (all : AreOffered ps places) (has : HasBranch places i b) where
  -- the place that was read offers the prefixes
  pub ready_is : (p : Place) → p ≡ get_or places i p → p ≡ Ready has.prefixes has.env
  ready_is p is = is ∙ get_or_from_slice_get places i (Ready has.prefixes has.env) p has.at

  pub prefixes_are : (p : Place) (ks : List ℕ) (env : Writes) → p ≡ get_or places i p → p ≡ Ready ks env → ks ≡ has.prefixes
  prefixes_are p ks env is same = let e : Ready ks env ≡ Ready has.prefixes has.env = sym same ∙ ready_is p is in cc

  pub branch_within : (p : Place) (ks : List ℕ) (env : Writes) → p ≡ get_or places i p → p ≡ Ready ks env → b < length ks
  branch_within p ks env is same = subst (λ l. b < length l) (sym (prefixes_are p ks env is same)) (slice_get_within has.prefixes b has.prefix has.listed)

  pub prefix_is : (p : Place) (ks slice : List ℕ) (env : Writes) (d : ℕ) → p ≡ get_or places i p → p ≡ Ready ks env → slice ≡ ks → get_or slice b d ≡ has.prefix
  prefix_is p ks slice env d is same sliced = ap (λ l. get_or l b d) (sliced ∙ prefixes_are p ks env is same) ∙ get_or_from_slice_get has.prefixes b has.prefix d has.listed

  pub is_prefix : (k : ℕ) → k ≡ has.prefix → IsPrefix (part ps k)
  is_prefix k e = subst (λ n. IsPrefix (part ps n)) (sym e) (prefix_at ps has.prefixes b has.prefix (all i has.prefixes has.env has.at) has.listed)

  pub code_within : (k : ℕ) → k ≡ has.prefix → k < length ps
  code_within k e = prefix_within ps k (is_prefix k e)

  -- the node there is a prefix
  pub node_prefix : (k : ℕ) (n : Node) → k ≡ has.prefix → slice_get ps k ≡ Some (tree_of ps n) → IsPrefix (tree_of ps n)
  node_prefix k n e at = subst IsPrefix (part_is ps k (tree_of ps n) at) (is_prefix k e)

  pub branch_found : (p : Place) (ks : List ℕ) (env : Writes) (k : ℕ) (n : Node) (e : Event) (next : ℕ) → p ≡ get_or places i p → p ≡ Ready ks env → k ≡ has.prefix →
      slice_get ps k ≡ Some (tree_of ps n) → PartsBelow k n → n ≡ node.Prefix e next → IsBranch ps places i b e next env
  branch_found p ks env k n e next is same k_is at below n_is = record {
    shown = record {
      prefixes = ks;
      at = has.at ∙ ap Some (sym (ready_is p is) ∙ same);
      prefix = k;
      listed = subst (λ l. IsAt l b k) (sym (prefixes_are p ks env is same)) (has.listed ∙ ap Some (sym k_is));
      is = part_is ps k (tree_of ps n) at ∙ ap (tree_of ps) n_is;
    };
    within = let low : next < k = subst (PartsBelow k) n_is below in let high = code_within k k_is in omega (arith, low, high);
  }

-- ---- as the state has them

module _ (ps : List ProcessTree) (store : Writes) (places : List Place) (i b : ℕ) where
  -- what is offered in the state is offered at a place
  pub offers_place : (P : Event → Type 0) → Offers P (state_of (state_in ps store places)) i b → HasBranch places i b
  offers_place P o =
      let c = at_map control_of _ i (Offering o.0) o.2 in
      let p = at_map (tree_control ps) places i c.0 c.1 in
      by p.0 p.1 (c.2 ∙ ap control_of p.2)
    where
      by : (p : Place) → IsAt places i p → Offering o.0 ≡ seen ps p → HasBranch places i b
      by (At k env) at e = absurd (cc)
      by Ended at e = absurd (cc)
      by (Ready ks env) at e =
          let same : o.0 ≡ branches_at ps ks (look_of env) = let f : Offering o.0 ≡ Offering (branches_at ps ks (look_of env)) = e ∙ ready_seen ps ks env in cc in
          let k = at_map (λ k. offered (part ps k) (look_of env)) ks b o.1 (subst (λ (bs : List BranchView). IsAt bs b o.1) same o.3) in
          record { prefixes = ks; env = env; prefix = k.0; at = at; listed = k.1 }

  module _ (e : Event) (q : ProcessTree) (env : Writes) (r : IsShown ps places i b e q env) where
    pub from_place : IsAt (state_of (state_in ps store places)).controls i (Offering (branches_at ps r.prefixes (look_of env)))
    from_place = control_at ps store places i (Ready r.prefixes env) r.at ∙ ap Some (ready_seen ps r.prefixes env)

    pub branch_there : IsAt (branches_at ps r.prefixes (look_of env)) b (record { event = e; next = q; env = look_of env })
    branch_there = get_map (λ k. offered (part ps k) (look_of env)) r.prefixes b r.prefix r.listed ∙ ap (λ p. Some (offered p (look_of env))) r.is

    -- so it is the event that is offered in the state
    pub event_is : (P : Event → Type 0) → Offers P (state_of (state_in ps store places)) i b → P e
    event_is P o =
        let same : o.0 ≡ branches_at ps r.prefixes (look_of env) = let f = two_at (state_of (state_in ps store places)).controls i (Offering o.0) (Offering (branches_at ps r.prefixes (look_of env))) o.2 from_place in cc in
        let branch = two_at (branches_at ps r.prefixes (look_of env)) b o.1 (record { event = e; next = q; env = look_of env }) (subst (λ (bs : List BranchView). IsAt bs b o.1) same o.3) branch_there in
        subst P (ap (λ (v : BranchView). v.event) branch) o.4

    -- and the branch may be found so
    pub offered_so : (P : Event → Type 0) → P e → Offers P (state_of (state_in ps store places)) i b
    offered_so P h = (branches_at ps r.prefixes (look_of env), record { event = e; next = q; env = look_of env }, from_place, branch_there, h)
