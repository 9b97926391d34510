-- Which open entry of the model an entry of the stack is.
use Rattle.calls.specs.Model.{Builder, Entry, builder, outer}
use Rattle.writer_backend.specs.Output.{held_number}
use Rattle.writer_backend.specs.declared.record.Builder as code_builder
use Rattle.formatter.specs.declared.entries.Entry as code
use Rattle.formatter.specs.declared.entries.Entry.TheVariants.{Builder as BuilderEntry, Outer as OuterEntry}

-- Document 01, 'A nested record': its kind, whether it has a field, the refusal that it holds
abbrev pub builder_of : code_builder.Builder → Builder
builder_of B = record { kind = B.kind; has_field = B.has_field; held = held_number B.held }

-- Document 01, 'Rust forms that cannot come along': in place of a builder that borrows, an open entry of the stack
abbrev pub entry_of : code.Entry → Entry
entry_of (BuilderEntry B) = builder (builder_of B)
entry_of (OuterEntry f m) = outer (record { flags = f; margin = m })
