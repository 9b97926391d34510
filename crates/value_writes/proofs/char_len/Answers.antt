use Rattle.str_writer.specs.Value.{text_of}
use Rattle.value_writes.proofs.char_len.Goals as goal

pub returns-in-Display : goal.returns-in-Display
unfolding text_of
returns-in-Display c f = rw (c.in-Display.is, c.char_display_len.ensures)

pub returns-in-Debug : goal.returns-in-Debug
unfolding text_of
returns-in-Debug c f = rw (c.in-Debug.is, c.char_debug_len.ensures)
