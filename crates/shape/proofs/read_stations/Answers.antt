-- `shape::read_stations` meets its contract. Assumes nothing.
use mathlib.Core.Path.{ap, ◌∙◌}
use mathlib.Core.List.{[]}
use Rattle.rules.specs.Check.{kinds}
use Rattle.parts.specs.declared.Part.{Part}
use Rattle.deep.specs.Reading.{reading}
use Rattle.shape.proofs.read_stations.Goals as goal

pub returns : goal.returns
returns c =
    let s = c.args.s.now in
    c.read_part.ensures ∙ ap (λ (part : Part). reading part [] (kinds s)) c.opened.ensures
