-- What an answer says of each list and each fault.
use Rattle.std.proofs.Common.{◌≡◌, ℕ, List, Option, Some, None, sym, subst}
use Rattle.std.specs.Prelude.{◌↔◌, Result, Ok, Err, IsErrAnd}
use Rattle.ldm_frags.specs.declared.faults.FragFault.{FragFault}
use Rattle.std.specs.Global.{Vec}
use Rattle.ldm_frags.specs.declared.faults.FragError.{FragError}
use Rattle.ldm_frags.specs.declared.faults.FragError.TheVariants.{Fault, NoMemory}
use Rattle.ldm_frags.specs.Answers.{AnswersBlocks, IsFault}
use Rattle.ldm_written.specs.Answers.{GivesList, Refuses}
use Rattle.ldm_frags.specs.Blocks.{count}
use Rattle.ldm_frags.specs.declared.faults.Joined.{Joined}
use Rattle.ldm_frags.specs.Faults.{first_block_fault}
use Rattle.ldm_frags.specs.Joins.{entries, Joins}
use Rattle.ldm_frags.proofs.JoinLaws.{one_list, joins_clean, faultless_joins}

-- an error of the blocks is handed on
pub fault_answers : (blocks : List ℕ) (r : Result (Vec Joined) FragError) (e : FragError) → IsErrAnd r (λ given. given ≡ e) → IsFault e (first_block_fault blocks) → AnswersBlocks blocks r
fault_answers blocks (Ok v) e is found = absurd is
fault_answers blocks (Err given) e is found = go given (subst (λ (x : FragError). IsFault x (first_block_fault blocks)) (sym is) found)
  where
    go : (x : FragError) → IsFault x (first_block_fault blocks) → AnswersBlocks blocks (Err x)
    go NoMemory h = tt
    go (Fault f) h = h

some_none : (f : FragFault) (o : Option FragFault) → o ≡ Some f → o ≡ None → ⊥
some_none f o e g = cc

pub answers_gives : (blocks : List ℕ) (r : Result (Vec Joined) FragError) → AnswersBlocks blocks r → (list : List Joined) → Joins blocks list → GivesList r list
answers_gives blocks (Ok v) a list joins = one_list blocks v.items list a joins
answers_gives blocks (Err NoMemory) a list joins = tt
answers_gives blocks (Err (Fault f)) a list joins = some_none f (first_block_fault blocks) a (joins_clean blocks list joins)

pub answers_refuses : (blocks : List ℕ) (r : Result (Vec Joined) FragError) → AnswersBlocks blocks r → (f : FragFault) → first_block_fault blocks ≡ Some f → Refuses r f
answers_refuses blocks (Ok v) a f e = some_none f (first_block_fault blocks) e (joins_clean blocks v.items a)
answers_refuses blocks (Err NoMemory) a f e = tt
answers_refuses blocks (Err (Fault g)) a f e = cc

-- there is a fault exactly where no list is joined
pub faultless : (blocks : List ℕ) → (first_block_fault blocks ≡ None) ↔ ((list : List Joined) × Joins blocks list)
faultless blocks = (λ e. (entries blocks (count blocks), faultless_joins blocks e), λ x. joins_clean blocks x.0 x.1)
