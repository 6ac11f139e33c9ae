use Rattle.std.proofs.Common.{sym}
use Rattle.der_view.specs.Sources.{source_view}
use Rattle.der_view.proofs.DrawingLemmas.{drawn_is, then_on}
use Rattle.der_view.proofs.showing.show_source.Goals as goal

pub returns-in-Decoded : goal.returns-in-Decoded
returns-in-Decoded g c =
    let it =
    rw c.in-Decoded.is
    at (drawn_is c.args.options.now.all c.args.before (source_view c.args.source.now) c.args.found.now _ c.requires) in
    record {
      text = λ plain.
          then_on g.W.Output.appends g.met.W.Output.joined _ _ _ _ _ _ c.show_bytes.result it.0
          (rw c.in-Decoded.is at (c.in_ok-write_head.ensures plain))
          (rw c.reading.ensures at (c.show_bytes.ensures.text plain));
      key = rw it.1 c.show_bytes.ensures.key;
    }

pub returns-in_ok-show_note-in-Said : goal.returns-in_ok-show_note-in-Said
returns-in_ok-show_note-in-Said g c =
    let it =
    rw c.in-Said.is
    at (drawn_is c.args.options.now.all c.args.before (source_view c.args.source.now) c.args.found.now _ c.requires) in
    record {
      text = λ plain.
          rw it.0
          (g.met.W.Output.joined _ _ _ _ _ (rw c.in-Said.is at (c.in_ok-write_head.ensures plain))
          (c.in_ok-show_note-in-Said.ensures plain));
      key = λ none. sym it.1;
    }
