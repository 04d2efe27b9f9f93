-- How journals end.
use Rattle.std.proofs.Common.{◌≡◌, ◌≢◌, None, Some, List, [], ◌∷◌, ◌++◌, refl}
use Rattle.cb_spec.specs.declared.state.Entry.{Entry}
use Rattle.cb_spec.specs.declared.state.Entry.TheVariants as entry
use Rattle.cb_spec.specs.declared.state.End.{End}
use Rattle.cb_spec.specs.declared.state.End.TheVariants.{Ended, Limit, Quiet, Memory}
use Rattle.cb_spec.specs.Journals.{IsEvent, IsComplete}
use Rattle.cb_system.specs.Views.{as_end, last_end}

pub end_more : (es : List Entry) (e : Entry) → last_end (es ++ e ∷ []) ≡ as_end e
end_more [] e = refl
end_more (x ∷ []) e = refl
end_more (x ∷ z ∷ zs) e = end_more (z ∷ zs) e

pub event_no_end : (e : Entry) → IsEvent e → as_end e ≡ None
event_no_end (entry.Settle i bits) h = absurd h
event_no_end (entry.Op i b k j args results written) h = refl
event_no_end (entry.Pass k sent got vs) h = refl
event_no_end (entry.End c) h = absurd h

complete_end : (e : Entry) (c : End) → as_end e ≡ Some c → c ≢ Memory → IsComplete (e ∷ [])
complete_end (entry.Settle i bits) c is due = absurd (cc)
complete_end (entry.Op i b k j args results written) c is due = absurd (cc)
complete_end (entry.Pass k sent got vs) c is due = absurd (cc)
complete_end (entry.End Ended) c is due = tt
complete_end (entry.End Limit) c is due = tt
complete_end (entry.End Quiet) c is due = tt
complete_end (entry.End Memory) c is due = absurd (due (cc))

complete_more : (e x : Entry) (xs : List Entry) → IsComplete (x ∷ xs) → IsComplete (e ∷ x ∷ xs)
complete_more (entry.Settle i bits) x xs h = h
complete_more (entry.Op i b k j args results written) x xs h = h
complete_more (entry.Pass k sent got vs) x xs h = h
complete_more (entry.End Ended) x xs h = h
complete_more (entry.End Limit) x xs h = h
complete_more (entry.End Quiet) x xs h = h
complete_more (entry.End Memory) x xs h = h

-- a journal is complete that ends by another cause than want of memory
pub complete_is : (es : List Entry) (c : End) → last_end es ≡ Some c → c ≢ Memory → IsComplete es
complete_is [] c is due = absurd (cc)
complete_is (e ∷ []) c is due = complete_end e c is due
complete_is (e ∷ x ∷ xs) c is due = complete_more e x xs (complete_is (x ∷ xs) c is due)
