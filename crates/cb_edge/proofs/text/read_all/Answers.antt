use Rattle.std.proofs.Common.{rules, ◌≡◌, length}
use Rattle.cb_edge.proofs.Told.{reads_next}
use Rattle.cb_edge.proofs.text.read_all.Goals as goal

pub pieces-preserved : goal.pieces-preserved
pieces-preserved g c =
    let here : c.len-at.result ≡ length c.pieces.bytes.items = search rules in (
      search rules,
      search rules,
      search rules,
      search rules,
      reads_next _ _ _ _ _ _ _ (c.pieces.invariant.3 _) here c.pieces.invariant.4 c.in_ok-count.ensures.bytes c.in_ok-count.ensures.bound c.in_ok-extend_from_slice.ensures.items,
    )
