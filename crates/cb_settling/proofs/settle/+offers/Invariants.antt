use Rattle.cb_settling.proofs.settle.+offers.Given as goal

-- parts have lower places
abbrev pub decreases-offers : goal.decreases-offers
decreases-offers l = l.place
