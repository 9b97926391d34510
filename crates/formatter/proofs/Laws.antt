-- The entries of the stack, of which the innermost is the last.
use Rattle.std.proofs.Common.{◌≡◌, ℕ, ◌+◌, ◌-◌, ◌<◌, List, [], ◌∷◌, ◌++◌, length, take, set, get_or, ap, sym, ◌∙◌, arith}
use Rattle.std.proofs.lemmas.List.{take_more, take_more_set, map-append, reverse-append, length-map, length-reverse, set-get_or, take_all}
use Rattle.calls.specs.Call.{a_builder}
use Rattle.calls.specs.Model.{builder, inner}
use Rattle.writer_backend.specs.declared.record.Builder as code_builder
use Rattle.formatter.specs.Entries.{builder_of, entry_of}
use Rattle.formatter.specs.View.{stack_of}
use Rattle.formatter.specs.declared.entries.Entry as code
use Rattle.formatter.specs.declared.entries.Entry.TheVariants.{Builder as BuilderEntry}

pub length_stack : (s : List code.Entry) → length (stack_of s) ≡ length s
length_stack s = rw (length-reverse, length-map)

-- one entry more
stack_push : (s : List code.Entry) (e : code.Entry) → stack_of (s ++ e ∷ []) ≡ entry_of e ∷ stack_of s
stack_push s e = rw (map-append, reverse-append)

module _ (s : List code.Entry) (d : ℕ) (e : code.Entry) (l : d < length s) where
  pub stack_more : stack_of (take (d + 1) (set s d e)) ≡ entry_of e ∷ stack_of (take d s)
  stack_more = rw take_more_set (stack_push (take d s) e)

  module _ (x : code.Entry) (q : get_or s d x ≡ e) where
    -- the innermost of some
    pub stack_top : stack_of (take (d + 1) s) ≡ entry_of e ∷ stack_of (take d s)
    stack_top = ap (λ t. stack_of t) (take_more s d x l) ∙ rw q (stack_push (take d s) e)

    -- what is put back as it was
    pub stack_same : set s d e ≡ s
    stack_same = rw (← q) (set-get_or s d x)

-- the innermost of all
pub inner_last : (s : List code.Entry) (B : code_builder.Builder) {e : code.Entry} → e ≡ BuilderEntry B → 0 < length s → e ≡ get_or s (length s - 1) e → inner (stack_of s) ≡ a_builder B.kind B.has_field
inner_last s B {e} b l q =
    let k : length s - 1 + 1 ≡ length s = omega arith in
    let t : take (length s) s ≡ s = take_all (length s) s (omega arith) in
    let m : length s - 1 < length s = omega arith in
    let h : stack_of s ≡ builder (builder_of B) ∷ stack_of (take (length s - 1) s) = rw (k, t, b) at (stack_top s (length s - 1) e m e (sym q)) in
    rw h
