-- What is kept of blocks that were fed: the group, part and number of parts of each, and the payload of
-- those in use.
use Rattle.std.specs.Prelude.{◌≡◌, ℕ, ◌^◌, ◌<◌, ◌≤◌, List, ◌++◌, length, take, replicate, Option, None, All}
use Rattle.std.specs.List.{flat_map}
use Rattle.std.specs.BTreeMap.{BTreeMap}
use Rattle.ldm_frags.specs.declared.groups.Group.{Group}
use Rattle.ldm_frags.specs.declared.blocks.Head.{Head}
use Rattle.ldm_frags.specs.declared.blocks.Piece.{Piece}
use Rattle.ldm_frags.specs.declared.faults.FragError.{FragError}
use Rattle.ldm_frags.specs.Blocks.{count, group, part, parts, payload, written_block}
use Rattle.ldm_frags.specs.Faults.{block_fault, first_below}
use Rattle.ldm_frags.specs.Groups.{IsTable}

-- what the head of block k says
abbrev pub head_at : List ℕ → ℕ → Head
head_at blocks k = record { group = group blocks k; part = part blocks k; parts = parts blocks k }

-- the piece is what is kept of block k
pub record IsPiece (blocks : List ℕ) (k : ℕ) (piece : Piece) : Type 0 where
  pub head : piece.head ≡ head_at blocks k
  pub payload : 1 ≤ piece.head.parts → piece.payload ≡ payload blocks k

-- a block that says what is kept, with zeros for the rest
abbrev pub block_of : Piece → List ℕ
block_of piece =
    written_block 0 piece.head.group piece.head.part piece.head.parts (take 112 (piece.payload ++ replicate 112 0))

unfoldable pub blocks_of : List Piece → List ℕ
blocks_of pieces = flat_map block_of pieces

-- a piece as it is kept of a block: the numbers of its head fit their fields, and in use it has a payload
pub record IsWholePiece (piece : Piece) : Type 0 where
  pub group : piece.head.group < 256 ^ 4
  pub part : piece.head.part < 256 ^ 2
  pub parts : piece.head.parts < 256 ^ 2
  pub full : 1 ≤ piece.head.parts → length piece.payload ≡ 112

-- the pieces of blocks without a fault, with the table of their groups
pub record IsKeptTable (pieces : List Piece) (groups : BTreeMap ℕ Group) : Type 0 where
  pub table : IsTable (blocks_of pieces) (count (blocks_of pieces)) groups
  pub sound : first_below (count (blocks_of pieces)) (block_fault (blocks_of pieces)) ≡ None
  pub whole : All IsWholePiece pieces

-- the piece is what is kept of a block that has no fault behind those of the pieces
pub record IsNextPiece (pieces : List Piece) (piece : Piece) (block : List ℕ) : Type 0 where
  pub len : length block ≡ 128
  pub whole : IsWholePiece piece
  pub is : IsPiece block 0 piece
  pub clean : block_fault (blocks_of pieces ++ block) (length pieces) ≡ None

-- what is true of the fields of every joiner
pub record IsJoiner (limit : ℕ) (pieces : List Piece) (groups : BTreeMap ℕ Group) (failed : Option FragError) : Type 0 where
  pub few : limit ≤ 8192
  pub within : length pieces ≤ limit
  pub kept : failed ≡ None → IsKeptTable pieces groups
