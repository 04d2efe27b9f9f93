-- The values of a form.
use Rattle.std.specs.Prelude.{ℕ, ◌<◌, List, [], ⊤}
use Rattle.cb_term.specs.declared.kind.Base.TheVariants as base
use Rattle.cb_term.specs.declared.value.Value.{Value}
use Rattle.cb_term.specs.declared.value.Value.TheVariants as value
use Rattle.cb_term.specs.Sets.{IsAscending}
use Rattle.cb_term.specs.Values.{AreItems, size_of_set}
use Rattle.cb_spec.specs.Domains.{Within, AllWithin}
use Rattle.cb_spec.specs.Forms as form
use Rattle.cb_spec.specs.Forms.{Form}

abbrev pub IsOfForm : List ℕ → Form → Value → Type 0
IsOfForm sizes (form.Number lo hi) (value.Int x) = Within lo hi x
IsOfForm sizes form.Truth (value.Truth b) = ⊤
IsOfForm sizes (form.Element set) (value.Elem k) = k < size_of_set sizes set
IsOfForm sizes (form.Numbers lo hi) (value.Set xs) = IsAscending xs × AllWithin lo hi xs
IsOfForm sizes form.TruthSet (value.Set xs) = IsAscending xs × AreItems sizes base.Truth xs
IsOfForm sizes (form.Elements set) (value.Set xs) = IsAscending xs × AreItems sizes (base.Elem set) xs
IsOfForm sizes form.Empty (value.Set []) = ⊤
IsOfForm sizes form v = ⊥
