-- What is spelled is begun by each of its fronts.
use Rattle.std.proofs.Common.{◌≡◌, Bool, List, [], ◌∷◌, ◌++◌}
use Rattle.cb_engine.specs.declared.Symbol.{Symbol}
use Rattle.cb_engine.specs.declared.Symbol.TheVariants.{Take, Keep, Part}
use Rattle.cb_engine.specs.declared.Terminal.{Terminal}
use Rattle.cb_engine.specs.declared.Item.{Item}
use Rattle.cb_engine.specs.declared.Item.TheVariants.{Word, Do}
use Rattle.cb_engine.specs.Rules.{Rules, Runs, kept, Begins}
use Rattle.cb_engine.specs.Rules.Runs.{ends, takes, keeps, acts, keys, others, goes_on}

nothing_begun : (r : Rules) (k : List Symbol) → Begins r k []
nothing_begun r k = ([], ends (λ f. absurd (cc)))

pub begins_front : {r : Rules} {w : Bool} {k : List Symbol} {all : List Terminal} {out : List Item} → Runs r w k all out → (ts us : List Terminal) → all ≡ ts ++ us → Begins r k ts
begins_front {r = r} (ends {k = k} g) [] us e = nothing_begun r k
begins_front (ends g) (t ∷ ts) us e = absurd (cc)
begins_front {r = r} (takes {c = c} {k = k} g m) [] us e = nothing_begun r (Take c ∷ k)
begins_front (takes {t = v} g m) (t ∷ ts) us e =
    let s : v ≡ t = cc in
    let b = begins_front m ts us (cc) in
    (b.0, takes (rw (← s) g) b.1)
begins_front {r = r} (keeps {c = c} {k = k} g m) [] us e = nothing_begun r (Keep c ∷ k)
begins_front (keeps {t = v} g m) (t ∷ ts) us e =
    let s : v ≡ t = cc in
    let b = begins_front m ts us (cc) in
    (Word t ∷ b.0, keeps (rw (← s) g) b.1)
begins_front (acts {a = a} m) ts us e = let b = begins_front m ts us e in (Do a ∷ b.0, acts b.1)
begins_front {r = r} (keys {n = n} {k = k} keep body g m) [] us e = nothing_begun r (Part n ∷ k)
begins_front {r = r} (keys {n = n} {t = v} keep body g m) (t ∷ ts) us e =
    let s : v ≡ t = cc in
    let b = begins_front m ts us (cc) in
    (kept keep t b.0, keys keep body (rw (← s) g) b.1)
begins_front (others body g m) ts us e = let b = begins_front m ts us e in (b.0, others body g b.1)
begins_front (goes_on m) ts us e = let b = begins_front m ts us e in (b.0, goes_on b.1)
