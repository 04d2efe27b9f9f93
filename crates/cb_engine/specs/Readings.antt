-- What reading a part answers.
use Rattle.std.specs.Prelude.{◌≡◌, ℕ, ◌≤◌, ◌<◌, ◌+◌, Bool, Some, List, [], ◌∷◌, ◌++◌, length, take, drop, slice_index}
use Rattle.cb_engine.specs.declared.Symbol.{Symbol}
use Rattle.cb_engine.specs.declared.Symbol.TheVariants.{Take, Keep, Act, Part, Gives, Then, Line}
use Rattle.cb_engine.specs.declared.Terminal.{Terminal}
use Rattle.cb_engine.specs.declared.Item.{Item}
use Rattle.cb_engine.specs.declared.Reading.{Reading}
use Rattle.cb_engine.specs.declared.Reading.TheVariants.{Whole, Fault}
use Rattle.cb_engine.specs.Rules.{Rules, Spells, Begins}

-- the token at the place, if there is one, doesn't go on with what the tokens before it begin
abbrev pub Stops : Rules → List Symbol → List Terminal → ℕ → Type 0
Stops r start ts to = (t : Terminal) (more : List Terminal) → drop to ts ≡ t ∷ more → Begins r start (take to ts ++ t ∷ []) → ⊥

-- the longest run of tokens that begins the part is the part, and it writes exactly this
pub record IsWhole (r : Rules) (start : List Symbol) (ts : List Terminal) (to : ℕ) (out : List Item) : Type 0 where
  pub within : to ≤ length ts
  pub spelled : Spells r start (take to ts) out
  pub only : (other : List Item) → Spells r start (take to ts) other → other ≡ out
  pub longest : Stops r start ts to

-- the longest run of tokens that begins the part is not the part
pub record IsFault (r : Rules) (start : List Symbol) (ts : List Terminal) (to : ℕ) : Type 0 where
  pub within : to ≤ length ts
  pub begun : Begins r start (take to ts)
  pub unspelled : (out : List Item) → Spells r start (take to ts) out → ⊥
  pub stops : Stops r start ts to

abbrev pub IsReading : Rules → List Symbol → List Terminal → Reading → Type 0
IsReading r start ts (Whole to out) = IsWhole r start ts to out.items
IsReading r start ts (Fault to) = IsFault r start ts to

-- how many steps without a token each symbol may take
abbrev pub weigh : (ℕ → ℕ) → List Symbol → ℕ
weigh wt [] = 0
weigh wt (Take c ∷ k) = weigh wt k
weigh wt (Keep c ∷ k) = weigh wt k
weigh wt (Act a ∷ k) = 1 + weigh wt k
weigh wt (Part n ∷ k) = wt n + weigh wt k
weigh wt (Gives s ∷ k) = weigh wt k
weigh wt (Line l0 l1 l2 ∷ k) = weigh wt k
weigh wt (Then a b ∷ k) = 1 + wt a + wt b + weigh wt k

pub record Light (r : Rules) (wt : ℕ → ℕ) : Type 0 where
  pub key : (n c : ℕ) (alt : Bool × List Symbol) → r.keyed n c ≡ Some alt → weigh wt alt.1 < 1000
  pub other : (n : ℕ) (body : List Symbol) → r.otherwise n ≡ Some body → weigh wt body < wt n

abbrev pub weight_in : List ℕ → ℕ → ℕ
weight_in ws n = slice_index ws n
