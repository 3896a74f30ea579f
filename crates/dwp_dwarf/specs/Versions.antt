-- A map from numbers to numbers whose versions share what they have alike: it has the declarations
-- of tables of abbreviations by their codes (DWARF 5, 7.5.3). Each version is made
-- by path copying (Driscoll, Sarnak, Sleator and Tarjan 1989, Making Data Structures Persistent).
-- It is 0, which has nothing, or the number of a node, counted from 1.
use Rattle.std.specs.Prelude.{◌≡◌, ◌<◌, ◌≤◌, ℕ, zero, suc, ◌%◌, ◌/◌, ◌-◌, ◌++◌, List, Option, Some}
use Rattle.std.specs.Prelude.{None, slice_get, nat_lt, ◌==◌, if◌then◌else◌}
use Rattle.dwp_dwarf.specs.declared.versions.Node.{Node}

-- the node of a version
abbrev pub node_of : List Node → ℕ → Option Node
node_of nodes zero = None
node_of nodes (suc i) = slice_get nodes i

-- a value that is there: 0 stands for none
abbrev pub held : ℕ → Option ℕ
held value = if value == 0 then None else Some value

-- the version of other keys that are even or odd as this one is
abbrev pub side_of : Node → ℕ → ℕ
side_of node key = if key % 2 == 0 then node.even else node.odd

-- a node with another version there
abbrev pub with_side : Node → ℕ → ℕ → Node
with_side node key version = if key % 2 == 0 then record node { even = version }
    else record node { odd = version }

-- what is left of a key but 0 there
abbrev pub half : ℕ → ℕ
half key = (key - 1) / 2

-- a version that is older than another; 0 where it isn't
abbrev pub older : ℕ → ℕ → ℕ
older version other = if nat_lt other version then other else 0

-- a node that has what a version has, by the version's node
abbrev pub copy_by : ℕ → Option Node → Node
copy_by version None = record { value = 0; even = 0; odd = 0 }
copy_by version (Some node) = record {
  value = node.value;
  even = older version node.even;
  odd = older version node.odd;
}

abbrev pub copy_of : List Node → ℕ → Node
copy_of nodes version = copy_by version (node_of nodes version)

-- what a node has for a key, if there is a node
abbrev pub value_by : Option Node → ℕ → (Node → Option ℕ) → Option ℕ
value_by None key others = None
value_by (Some node) key others = if key == 0 then held node.value else others node

-- the value of a key in a version, of at most so many nodes on the way
unfoldable pub value_below : ℕ → List Node → ℕ → ℕ → Option ℕ
value_below zero nodes version key = None
value_below (suc n) nodes version key = value_by (node_of nodes version) key
    (λ node. value_below n nodes (older version (side_of node key)) (half key))

-- the value of a key in a version: a key has 64 bits
abbrev pub value_in : List Node → ℕ → ℕ → Option ℕ
value_in nodes version key = value_below 65 nodes version key

-- the second has the nodes of the first, and more
pub record Grows (old new : List Node) : Type 0 where
  pub more : List Node
  pub is : new ≡ old ++ more
