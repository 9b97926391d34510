-- The answers for a cursor given and for `truncate`, a law for each.
use mathlib.Core.Bool.{Bool, true, false, cond}
use mathlib.Core.Path.{◌≡◌, sym}
use mathlib.Core.List.{List}
use Prim.Native.Nat.{ℕ, ◌≤◌, ◌<◌}
use lib.Dec.{ltb}
use lib.ListN.{length, take}
use borrow.Author.Tests.{lt-ltb, le-ltb}
use Rattle.std.specs.Prelude.{Some, None, Ok, Err}
use Rattle.error.specs.declared.Error.{Error}
use Rattle.error.specs.declared.Error.TheVariants.{NotOnCharBoundary, BadCursor}
use Rattle.utils.specs.Text.{is_boundary}
use Rattle.str_writer.specs.Truncate.{start_at, truncated, truncated_utf8}
use Rattle.str_writer.specs.Write.{Written, written, cursor_fault}

-- a cursor past the end: each call answers 9 and keeps it
module _ (b : List ℕ) (at : ℕ) (e : Error) (h : cursor_fault b at ≡ Some e) where
  past : (o : Written) → cond (ltb (length b) at) (record { at = at; answer = Err BadCursor }) o ≡ written at (Err e)
  past o = go (ltb (length b) at) h
    where
      go : (t : Bool) → cond t (Some BadCursor) None ≡ Some e → cond t (record { at = at; answer = Err BadCursor }) o ≡ written at (Err e)
      go true k = cc k
      go false k = cc k

  pub start-met : written at (Err e) ≡ start_at b at
  unfolding start_at
  start-met = sym (past _)

  module _ (n : ℕ) where
    pub cut-met : written at (Err e) ≡ truncated b at n
    unfolding truncated
    cut-met = sym (past _)

    pub utf8_met : written at (Err e) ≡ truncated_utf8 b at n
    unfolding truncated_utf8
    utf8_met = sym (past _)

module _ (b : List ℕ) (at : ℕ) where
  pub start_fits : at ≤ length b → start_at b at ≡ record { at = at; answer = Ok tt }
  unfolding start_at
  start_fits h = simp (le-ltb _ _ h)

  module _ (n : ℕ) (h : at ≤ length b) where
    pub cut-above : at < n → record { at = at; answer = Ok tt } ≡ truncated b at n
    unfolding truncated
    cut-above k = simp (le-ltb _ _ h, lt-ltb _ _ k)

    pub cut-done : n ≤ at → record { at = n; answer = Ok tt } ≡ truncated b at n
    unfolding truncated
    cut-done k = simp (le-ltb _ _ h, le-ltb _ _ k)

    pub utf8_above : at < n → record { at = at; answer = Ok tt } ≡ truncated_utf8 b at n
    unfolding truncated_utf8
    utf8_above k = simp (le-ltb _ _ h, lt-ltb _ _ k)

    pub utf8_tested : n ≤ at → (x : Bool) → is_boundary (take at b) n ≡ x
        → cond x (record { at = n; answer = Ok tt }) (record { at = at; answer = Err NotOnCharBoundary }) ≡ truncated_utf8 b at n
    unfolding truncated_utf8
    utf8_tested k x e = rw (le-ltb (length b) at h, le-ltb at n k, e)

    module _ (k : n ≤ at) where
      pub utf8_done : is_boundary (take at b) n ≡ true → record { at = n; answer = Ok tt } ≡ truncated_utf8 b at n
      utf8_done e = utf8_tested k true e

      pub utf8_cut : is_boundary (take at b) n ≡ false → record { at = at; answer = Err NotOnCharBoundary } ≡ truncated_utf8 b at n
      utf8_cut e = utf8_tested k false e
