-- Names that are there get other values, from the last to the first.
use Rattle.std.proofs.Common.{◌≡◌, ℕ, zero, suc, ◌-◌, ◌<◌, ◌≤◌, Bool, true, false, ◌||◌, if◌then◌else◌, List, [], ◌∷◌, length, drop, take, map, ◌++◌, get_or, Some, IsSome, refl, sym, ap, subst, ◌∙◌, arith}
use Rattle.cb_term.specs.declared.name.Name.{Name}
use Rattle.cb_term.specs.declared.value.Value.{Value}
use Rattle.cb_term.specs.Names.{same_name}
use Rattle.cb_term.specs.Values.{Look, nothing, set_at}
use Rattle.cb_term.proofs.ValueLemmas.{same_name_tells, same_name_self}
use Rattle.cb_spec.specs.declared.system.Declared.{Declared}
use Rattle.cb_spec.specs.Stores.{Writes, found, over, look_of, Puts}
use Rattle.cb_spec.specs.Bound.{names, bind, is_among}
use Rattle.cb_settling.proofs.BindLemmas.{drop_front}
use Rattle.cb_settling.specs.Ops.{AllThere, SameBut, AllNothing, KeepsNames, PutFrom, ClearedFrom, WrittenFrom}

or_true : (a b : Bool) → b ≡ true → (a || b) ≡ true
or_true true b h = refl
or_true false b h = h

-- a listed parameter's name is among them
listed : (ps : List Declared) (k : ℕ) (d : Declared) → k < length ps → is_among (get_or ps k d).name (names ps) ≡ true
listed [] k d l = absurd (omega (arith, l))
listed (p ∷ ps) zero d l = ap (λ b. b || is_among p.name (names ps)) (same_name_self p.name)
listed (p ∷ ps) (suc k) d l = or_true (same_name (get_or ps k d).name p.name) (is_among (get_or ps k d).name (names ps)) (listed ps k d (omega (arith, l)))

-- a name that gets a value is not lost, and no other is
puts_keeps : (old new : Writes) (x : Name) (v : Value) → Puts old new x v → KeepsNames old new
puts_keeps old new x v puts y has = subst IsSome (sym (puts.found_is y)) (by (same_name y x))
  where
    by : (b : Bool) → IsSome (if b then Some v else found old y)
    by true = refl
    by false = has

pub keeps_both : (a b c : Writes) → KeepsNames a b → KeepsNames b c → KeepsNames a c
keeps_both a b c g h x has = h x (g x has)

pub still_there : (xs : List Name) (old new : Writes) → AllThere xs old → KeepsNames old new → AllThere xs new
still_there xs old new there keeps x among = keeps x (there x among)

module _ (ps : List Declared) (old new : Writes) (k : ℕ) (d : Declared) (v : Value) (low : k < length ps) (puts : Puts old new (get_or ps k d).name v) where
  others_same : (look : Look) → SameBut (names ps) look (look_of old) → SameBut (names ps) look (look_of new)
  others_same look h x apart =
      ap (λ (l : Look). l x) puts.look_is ∙ by (same_name x (get_or ps k d).name) refl
    where
      by : (b : Bool) → same_name x (get_or ps k d).name ≡ b → (if b then v else look_of old x) ≡ look x
      by true same = absurd (let a : is_among x (names ps) ≡ true = subst (λ n. is_among n (names ps) ≡ true) (sym (same_name_tells x (get_or ps k d).name same)) (listed ps k d low) in cc)
      by false same = h x apart

  one_put : (args : List Value) (a : Value) (look : Look) → k < length args → v ≡ get_or args k a → look_of old ≡ over (bind (names (drop (suc k) ps)) (drop (suc k) args)) look →
      look_of new ≡ over (bind (names (drop k ps)) (drop k args)) look
  one_put args a look low' is h =
      puts.look_is ∙ (λ i. set_at (h i) (get_or ps k d).name (is i))
      ∙ (λ i. over (bind (names (sym (drop_front ps k d low) i)) (sym (drop_front args k a low') i)) look)

  one_cleared : v ≡ nothing → AllNothing (names (drop (suc k) ps)) (look_of old) → AllNothing (names (drop k ps)) (look_of new)
  one_cleared is h x among =
      ap (λ (l : Look). l x) puts.look_is ∙ by (same_name x (get_or ps k d).name) refl
    where
      by : (b : Bool) → same_name x (get_or ps k d).name ≡ b → (if b then v else look_of old x) ≡ nothing
      by true same = is
      by false same = h x (behind same (subst (λ qs. is_among x (names qs) ≡ true) (drop_front ps k d low) among))
        where
          behind : same_name x (get_or ps k d).name ≡ false → (same_name x (get_or ps k d).name || is_among x (names (drop (suc k) ps))) ≡ true → is_among x (names (drop (suc k) ps)) ≡ true
          behind e o = subst (λ b. (b || is_among x (names (drop (suc k) ps))) ≡ true) e o

-- parameters at rest again, the store is as before
pub same_again : (xs : List Name) (old mid new : Writes) → AllNothing xs (look_of old) → SameBut xs (look_of old) (look_of mid) → SameBut xs (look_of mid) (look_of new) → AllNothing xs (look_of new) →
    look_of new ≡ look_of old
same_again xs old mid new rest others others' zeros i x = by (is_among x xs) refl i
  where
    by : (b : Bool) → is_among x xs ≡ b → look_of new x ≡ look_of old x
    by true among = zeros x among ∙ sym (rest x among)
    by false apart = others' x apart ∙ others x apart

module _ (ps : List Declared) (left : ℕ) (d : Declared) (some : 0 < left) (most : left ≤ length ps) where
  low : left - 1 < length ps
  low = omega (arith, some, most)

  next : left ≡ suc (left - 1)
  next = omega (arith, some)

  pub is_there : (start now : Writes) → AllThere (names ps) start → KeepsNames start now → IsSome (found now (get_or ps (left - 1) d).name)
  is_there start now there keeps = keeps (get_or ps (left - 1) d).name (there (get_or ps (left - 1) d).name (listed ps (left - 1) d low))

  pub put_one : (args : List Value) (start old new : Writes) (v a : Value) → length ps ≡ length args → v ≡ get_or args (left - 1) a → Puts old new (get_or ps (left - 1) d).name v →
      PutFrom ps args start old left → PutFrom ps args start new (left - 1)
  put_one args start old new v a many is puts h = record {
    within = omega (arith, most);
    put = one_put ps old new (left - 1) d v low puts args a (look_of start) (omega (arith, some, most, many)) is
        (subst (λ k. look_of old ≡ over (bind (names (drop k ps)) (drop k args)) (look_of start)) next h.put);
    others = others_same ps old new (left - 1) d v low puts (look_of start) h.others;
    names_kept = keeps_both start old new h.names_kept (puts_keeps old new (get_or ps (left - 1) d).name v puts);
  }

  pub clear_one : (start old new : Writes) (v : Value) → v ≡ nothing → Puts old new (get_or ps (left - 1) d).name v → ClearedFrom ps start old left → ClearedFrom ps start new (left - 1)
  clear_one start old new v is puts h = record {
    within = omega (arith, most);
    zero = one_cleared ps old new (left - 1) d v low puts is (subst (λ k. AllNothing (names (drop k ps)) (look_of old)) next h.zero);
    others = others_same ps old new (left - 1) d v low puts (look_of start) h.others;
    names_kept = keeps_both start old new h.names_kept (puts_keeps old new (get_or ps (left - 1) d).name v puts);
  }

-- ---- writing over

abbrev back : Value → List Value → Value
back d [] = d
back d (x ∷ xs) = back x xs

abbrev front : List Value → List Value
front [] = []
front (x ∷ []) = []
front (x ∷ y ∷ ys) = x ∷ front (y ∷ ys)

back_snoc : (d : Value) (xs : List Value) (a : Value) → back d (xs ++ a ∷ []) ≡ a
back_snoc d [] a = refl
back_snoc d (x ∷ xs) a = back_snoc x xs a

front_snoc : (xs : List Value) (a : Value) → front (xs ++ a ∷ []) ≡ xs
front_snoc [] a = refl
front_snoc (x ∷ []) a = refl
front_snoc (x ∷ y ∷ ys) a = ap (λ zs. x ∷ zs) (front_snoc (y ∷ ys) a)

abbrev values_of : Writes → List Value
values_of es = map (λ (e : Name × Value). e.1) es

abbrev names_of : Writes → List Name
names_of es = map (λ (e : Name × Value). e.0) es

taken : (es : Writes) (k : ℕ) (d : Name × Value) → k < length es → values_of (take (suc k) es) ≡ values_of (take k es) ++ (get_or es k d).1 ∷ []
taken [] k d l = absurd (omega (arith, l))
taken (e ∷ es) zero d l = refl
taken (e ∷ es) (suc k) d l = ap (λ vs. e.1 ∷ vs) (taken es k d (omega (arith, l)))

in_list : (es : Writes) (k : ℕ) (d : Name × Value) → k < length es → is_among (get_or es k d).0 (names_of es) ≡ true
in_list [] k d l = absurd (omega (arith, l))
in_list (e ∷ es) zero d l = ap (λ b. b || is_among e.0 (names_of es)) (same_name_self e.0)
in_list (e ∷ es) (suc k) d l = or_true (same_name (get_or es k d).0 e.0) (is_among (get_or es k d).0 (names_of es)) (in_list es k d (omega (arith, l)))

module _ (es start : Writes) (left : ℕ) (d : Name × Value) (some : 0 < left) (most : left ≤ length es) where
  down : left - 1 < length es
  down = omega (arith, some, most)

  up : left ≡ suc (left - 1)
  up = omega (arith, some)

  pub name_there : (now : Writes) (values : List Value) → AllThere (names_of es) start → WrittenFrom es start now values left → IsSome (found now (get_or es (left - 1) d).0)
  name_there now values there h = h.names_kept (get_or es (left - 1) d).0 (there (get_or es (left - 1) d).0 (in_list es (left - 1) d down))

  pub write_one : (old new : Writes) (values rest : List Value) (v : Value) → values ≡ rest ++ v ∷ [] → Puts old new (get_or es (left - 1) d).0 v → WrittenFrom es start old values left →
      WrittenFrom es start new rest (left - 1)
  write_one old new values rest v is puts h =
      let both : rest ++ v ∷ [] ≡ values_of (take (left - 1) es) ++ (get_or es (left - 1) d).1 ∷ [] =
      sym is ∙ h.rest ∙ ap (λ k. values_of (take k es)) up ∙ taken es (left - 1) d down in
      let value : v ≡ (get_or es (left - 1) d).1 = sym (back_snoc v rest v) ∙ ap (back v) both ∙ back_snoc v (values_of (take (left - 1) es)) (get_or es (left - 1) d).1 in
      record {
        within = omega (arith, most);
        look = puts.look_is ∙ (λ i. set_at ((h.look ∙ ap (λ k. over (drop k es) (look_of start)) up) i) (get_or es (left - 1) d).0 (value i))
            ∙ (λ i. over (sym (drop_front es (left - 1) d down) i) (look_of start));
        names_kept = keeps_both start old new h.names_kept (puts_keeps old new (get_or es (left - 1) d).0 v puts);
        rest = sym (front_snoc rest v) ∙ ap front both ∙ front_snoc (values_of (take (left - 1) es)) (get_or es (left - 1) d).1;
      }
