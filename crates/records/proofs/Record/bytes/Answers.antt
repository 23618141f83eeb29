-- Each number's bytes are those that stand for it.
use mathlib.Core.Path.{◌∙◌}
use Rattle.records.proofs.Little.{to_bytes}
use Rattle.records.proofs.Record.bytes.Goals as goal

pub returns : goal.returns
returns c =
    let r = c.args.self in
    rw (
      c.to_le_bytes.ensures ∙ to_bytes 2 r.old.0,
      c.to_le_bytes-2.ensures ∙ to_bytes 2 r.new.0,
      c.to_le_bytes-3.ensures ∙ to_bytes 2 r.first,
      c.to_le_bytes-4.ensures ∙ to_bytes 2 r.second,
      c.to_le_bytes-5.ensures ∙ to_bytes 4 r.number,
      c.to_le_bytes-6.ensures ∙ to_bytes 8 r.time,
      c.to_le_bytes-7.ensures ∙ to_bytes 4 r.bytes28,
    )
