-- Processes laid flat: a list of nodes, each told by its place. A node tells its parts by their places, which are lower.
use Rattle.std.specs.Prelude.{ℕ, suc, ◌<◌, ◌≡◌, List, [], ◌∷◌, ◌++◌, slice_get, unwrap_or, ⊤}
use Rattle.cb_spec.specs.ProcessTree.{ProcessTree}
use Rattle.cb_spec.specs.ProcessTree as tree
use Rattle.cb_code.specs.declared.code.Node.{Node}
use Rattle.cb_code.specs.declared.code.Node.TheVariants.{Stop, Skip, Call, Prefix, Choice, Internal, If}

-- the process at the place
abbrev pub part : List ProcessTree → ℕ → ProcessTree
part ps k = unwrap_or (slice_get ps k) tree.Stop

-- the node's process, where its parts are among the processes
abbrev pub tree_of : List ProcessTree → Node → ProcessTree
tree_of ps Stop = tree.Stop
tree_of ps Skip = tree.Skip
tree_of ps (Call k ts) = tree.Call k ts
tree_of ps (Prefix e j) = tree.Prefix e (part ps j)
tree_of ps (Choice j k) = tree.Choice (part ps j) (part ps k)
tree_of ps (Internal j k) = tree.Internal (part ps j) (part ps k)
tree_of ps (If f j k) = tree.If f (part ps j) (part ps k)

-- the processes, and then those of the nodes
abbrev pub trees_on : List ProcessTree → List Node → List ProcessTree
trees_on ps [] = ps
trees_on ps (n ∷ ns) = trees_on (ps ++ tree_of ps n ∷ []) ns

abbrev pub trees : List Node → List ProcessTree
trees ns = trees_on [] ns

-- the node's parts have places below k
abbrev pub PartsBelow : ℕ → Node → Type 0
PartsBelow k Stop = ⊤
PartsBelow k Skip = ⊤
PartsBelow k (Call d ts) = ⊤
PartsBelow k (Prefix e i) = i < k
PartsBelow k (Choice i j) = (i < k) × (j < k)
PartsBelow k (Internal i j) = (i < k) × (j < k)
PartsBelow k (If f i j) = (i < k) × (j < k)

-- so have those of each node, the first having the place k
abbrev pub Falls : ℕ → List Node → Type 0
Falls k [] = ⊤
Falls k (n ∷ ns) = PartsBelow k n × Falls (suc k) ns

-- the new list begins with the old one
abbrev pub Extends : List ProcessTree → List ProcessTree → Type 0
Extends old new = (more : List ProcessTree) × (new ≡ old ++ more)
