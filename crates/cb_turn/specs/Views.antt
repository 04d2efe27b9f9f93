-- The rule of a turn, and what each step does to what a pass knows. The rule speaks of the values that are in their place, one or none, and of the views of all passes.
use Rattle.std.specs.Prelude.{◌≡◌, ◌≢◌, ℕ, ◌+◌, ◌-◌, ◌<◌, ◌≤◌, nat_lt, true, false, if◌then◌else◌, List, [], ◌∷◌, ◌++◌, length, drop, sum_by, Option, Some, None, ◌⊎◌}
use mathlib.Core.Option.{some}
use lib.ListN.{get_elem?}
use Rattle.cb_turn.specs.declared.view.View.{View}

-- ---- lists

-- the second list begins with the first
abbrev pub IsPrefix : {A : Type 0} → List A → List A → Type 0
IsPrefix {A} xs ys = (rest : List A) × (ys ≡ xs ++ rest)

-- the places of a list's items, of which the first stands at place n
abbrev pub places_from : {A : Type 0} → ℕ → List A → List ℕ
places_from n [] = []
places_from n (x ∷ xs) = n ∷ places_from (n + 1) xs

-- the longer of two lists
abbrev pub longer : {A : Type 0} → List A → List A → List A
longer xs ys = if nat_lt (length xs) (length ys) then ys else xs

-- the numbers ascend, and stand from the first bound on, below the second
abbrev pub IsAscendingIn : ℕ → ℕ → List ℕ → Type 0
IsAscendingIn from to [] = Unit {0}
IsAscendingIn from to (n ∷ ns) = (from ≤ n) × (n < to) × IsAscendingIn (n + 1) to ns

module _ {P E : Type 0} where
  -- ---- what a step makes of a view

  -- the first pass, once the value is in its place
  abbrev pub started : P → List E → View P E
  started plan list = record { spent = false; plan = Some plan; seen = list; mine = []; holds = false; first = true; splits = 0 }

  -- the pass takes a value with this list
  abbrev pub taking : View P E → List E → View P E
  taking v list = record v { seen = list; holds = true }

  -- it gives a value with this list back, and the entries past those that it took are its own
  abbrev pub giving : View P E → List E → View P E
  giving v list = record v { seen = list; mine = v.mine ++ places_from (length v.seen) (drop (length v.seen) list); holds = false }

  -- the first pass, after a pass was split off
  abbrev pub split_from : View P E → View P E
  split_from v = record v { splits = v.splits + 1 }

  -- the pass that was split off
  abbrev pub split_off : View P E → View P E
  split_off v = record v { mine = []; first = false; splits = 0 }

  -- the first pass, after another was joined to it
  abbrev pub joined : View P E → View P E → View P E
  joined v w = record v { seen = longer v.seen w.seen; splits = v.splits - 1 }

  -- the pass that was joined
  abbrev pub spent : View P E
  spent = record { spent = true; plan = None; seen = []; mine = []; holds = false; first = false; splits = 0 }

  -- ---- what a view says

  -- the places of its own entries ascend, and lie in what was seen
  abbrev pub IsInOrder : View P E → Type 0
  IsInOrder v = IsAscendingIn 0 (length v.seen) v.mine

  -- another pass held a value of the same plan, and had taken a list that begins with what this one has seen; while no pass is split off this cannot be
  abbrev pub AnotherHolds : View P E → Type 0
  AnotherHolds v = ((u : View P E) × (u.holds ≡ true) × (u.plan ≡ v.plan) × IsPrefix v.seen u.seen) × (v.first ≡ true → 0 < v.splits)

  -- ---- the rule

  -- 1 for a pass that is not spent
  abbrev pub lives : View P E → ℕ
  lives v = if v.spent then 0 else 1

  -- a pass has this plan and has seen a beginning of this list, or is spent and holds nothing
  abbrev pub Fits : Option P → List E → View P E → Type 0
  Fits plan list v = (v.spent ≡ false → (v.plan ≡ plan) × IsPrefix v.seen list) × (v.spent ≡ true → v.holds ≡ false)

  -- F holds of each view and its number
  abbrev pub Each : (ℕ → View P E → Type 0) → List (View P E) → Type 0
  Each F views = (i : ℕ) (v : View P E) → get_elem? views i ≡ some v → F i v

  -- one pass is the first, and its number of splits is that of the other passes that are not spent
  pub record HasOneFirst (views : List (View P E)) : Type 0 where
    pub place : ℕ
    pub leader : View P E
    pub at : get_elem? views place ≡ some leader
    pub is_first : leader.first ≡ true
    pub not_spent : leader.spent ≡ false
    pub counts : sum_by lives views ≡ leader.splits + 1
    pub others : Each (λ i v. i ≢ place → v.first ≡ false) views

module _ {T P E : Type 0} (plan : T → P) (list : T → List E) where
  -- the value is in its place, and no pass holds it
  pub record IsAtHome (items : List T) (known : Option P) (front : List E) (views : List (View P E)) : Type 0 where
    pub value : T
    pub here : items ≡ value ∷ []
    pub same_plan : known ≡ Some (plan value)
    pub same_list : front ≡ list value
    pub none_holds : Each (λ _ v. v.holds ≡ false) views

  -- no value is in its place, and one pass holds it
  pub record IsOut (items : List T) (front : List E) (views : List (View P E)) : Type 0 where
    pub empty : items ≡ []
    pub place : ℕ
    pub holder : View P E
    pub at : get_elem? views place ≡ some holder
    pub is_holder : holder.holds ≡ true
    pub took : holder.seen ≡ front
    pub others : Each (λ i v. i ≢ place → v.holds ≡ false) views

  -- the whole rule: what each pass has seen is a beginning of the list at home, or of the list that the holder took
  pub record IsRuled (items : List T) (views : List (View P E)) : Type 0 where
    pub known : Option P
    pub front : List E
    pub where_is : IsAtHome items known front views ⊎ IsOut items front views
    pub fits : Each (λ _ v. Fits known front v) views
    pub one_first : HasOneFirst views

  -- ---- what a step tells its pass

  -- a take of x
  abbrev pub Takes : View P E → T → View P E → Type 0
  Takes old x new = (old.plan ≡ Some (plan x)) × IsPrefix old.seen (list x) × (new ≡ taking old (list x))

  -- a give of x
  abbrev pub Gives : View P E → T → View P E → Type 0
  Gives old x new = new ≡ giving old (list x)
