use Rattle.cb_settling.proofs.settle.+choose.Given as goal

-- parts have lower places
abbrev pub decreases-choose : goal.decreases-choose
decreases-choose g l = l.place
