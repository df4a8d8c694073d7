-- Stops that follow each other.
use Rattle.std.proofs.Common.{List, Option, inl, inr, ◌∙◌}
use Rattle.cluster_tree.specs.Contents.{Contents}
use Rattle.cluster_tree.specs.PathValue.{PathValue}
use Rattle.replay_list.specs.declared.listed.Listed.{Listed}
use Rattle.replay_restore.specs.Restored.{IsRestored}
use Rattle.replay_start.specs.Checked.{Start}
use Rattle.restored_laws.proofs.BlockLemmas.{block-back}
use Rattle.rmgr_hooks.specs.Custom.{Extension}
use Rattle.restart_laws.specs.Laws.{StopsAreOne}
use Rattle.restart_laws.specs.Stopped.{IsStoppedIn, WasBegun}
use Rattle.restart_laws.proofs.BegunLemmas.{beside-back, is-back}

pub back-stopped : (custom : Option Extension) (root : PathValue) (s : Start) (listed : List Listed) (c d x b : Contents)
    → WasBegun custom root s listed c d → IsStoppedIn custom root s d x → IsRestored root listed x b → IsStoppedIn custom root s d b
back-stopped custom root s listed c d x b begun stopped restored = record {
  beside = beside-back custom root s listed c d begun x b stopped restored;
  blocks = λ name page main own free has.
      block-back root s.control.relseg d x b name page (is-back custom root s listed c d begun x b stopped restored) has (λ inside. stopped.blocks name page main inside free has);
}

pub stops-one : StopsAreOne
stops-one custom root s d x y first (inl next) = record {
  beside = λ path off. next.beside path off ∙ first.beside path off;
  blocks = λ name page main own free has. next.blocks name page main own free (first.blocks name page main own free has);
}
stops-one custom root s d x y first (inr next) = record {
  beside = λ path off. next.beside path off ∙ first.beside path off;
  blocks = λ name page main own free has. next.blocks name page main own free has (first.blocks name page main own free has);
}
