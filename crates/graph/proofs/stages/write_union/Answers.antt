use Rattle.std.proofs.Common.{List, ℕ, ap, sym, ◌∙◌, length}
use Rattle.prelude.specs.PartLaws.{padded_full}
use Rattle.sets.specs.Sets.{union}
use Rattle.graph.proofs.stages.write_union.Goals as goal

pub join-requires : goal.join-requires
join-requires c =
    c.requires.1 ∙ sym (ap length (c.copy_padded.ensures ∙ padded_full _ _ c.requires.0) ∙ c.requires.0)

pub returns : goal.returns
returns c =
    c.join.ensures ∙ ap (λ (s : List ℕ). union s c.args.b.now) (c.copy_padded.ensures ∙ padded_full _ _ c.requires.0)
