use Rattle.str_writer.specs.Write.{written}
use Rattle.sheet_stream.proofs.Laws.{goes-on, end_later, end_short}
use Rattle.sheet_stream.proofs.State.end.Goals as goal

pub returns-in-Later-clause-printed : goal.returns-in-Later-clause-printed
returns-in-Later-clause-printed c =
    let s = rw c.in-Later.is at c.requires.0.size in
    let e = rw c.slice_up_to_len.ensures at c.end.ensures in
    rw (c.in-Later.is, ← goes-on c.args.at c.end.result c.unwrap_or.ensures) (end_later c.in-Later.line c.in-Later.sheet c.args.buf.now c.args.out.now c.args.at c.in-Later.size c.end.new.out (written c.args.at c.end.result) s e.text_len_bound e.out_after c.requires.1)

pub returns-in-Later-clause-short : goal.returns-in-Later-clause-short
returns-in-Later-clause-short c =
    let s = rw c.in-Later.is at c.requires.0.size in
    let e = rw c.slice_up_to_len.ensures at c.end.ensures in
    rw (goes-on c.args.at c.end.result c.unwrap_or.ensures) at (end_short c.in-Later.line c.in-Later.sheet c.args.buf.now c.args.out.now c.args.at c.in-Later.size c.end.new.out (written c.args.at c.end.result) s e.text_len_bound e.out_after c.requires.1)
