-- Document 02, ticket 5: the bytes that a list of calls leaves untouched.
use Rattle.std.specs.Prelude.{◌≡◌, List, ℕ, ◌≤◌, length, take, drop}
use Rattle.calls.specs.Call.{Call}
use Rattle.calls.specs.Model.{Mode, counting, writing, State, run}

-- ticket 5: from b to b' only bytes from p on and before c have changed: the others and the length are what they were, and c is not before p
pub record OnlyBetween (b : List ℕ) (p : ℕ) (b' : List ℕ) (c : ℕ) : Type 0 where
  pub forward : p ≤ c
  pub size : length b' ≡ length b
  pub before : take p b' ≡ take p b
  pub behind : drop c b' ≡ drop c b

-- ticket 5: what the bytes b are to b', those of a later formatter of the same run: in writing only bytes from the cursor then to the cursor now have changed, in counting none
abbrev pub LeavesRest : Mode → List ℕ → Mode → List ℕ → Type 0
LeavesRest (counting n) b (counting m) b' = b' ≡ b
LeavesRest (counting n) b (writing c) b' = ⊥
LeavesRest (writing p) b (counting m) b' = ⊥
LeavesRest (writing p) b (writing c) b' = OnlyBetween b p b' c

-- ticket 5: for every list of calls from every formatter, permitted or not, refused or done (proved in proofs/Rest)
abbrev pub RestUntouched : Type 0
RestUntouched =
    (F : State) (cs : List Call) →
    LeavesRest F.output.mode F.output.bytes (run F cs).state.output.mode (run F cs).state.output.bytes
