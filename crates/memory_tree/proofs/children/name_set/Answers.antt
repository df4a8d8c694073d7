use Rattle.std.proofs.Common.{◌≡◌, rules, [], ◌∷◌, ap, sym, ◌∙◌, map, bytes_eq, string_bytes, is_some}
use Rattle.std.specs.List.{list_all, list_any}
use Rattle.std.specs.FinMap.{get-empty}
use Rattle.cluster_tree.specs.PathValue.{path_cmp, below, is_part}
use Rattle.memory_tree.proofs.NameLemmas.{members-more, members-kept, all-insert_key}
use Rattle.memory_tree.proofs.children.name_set.Goals as goal
use Rattle.memory_tree.proofs.children.name_set.Goals.{in-Some+in_ok-clone+in_ok-insert, in_default}

pub loop-placed-init : goal.loop-placed-init
loop-placed-init c = record {
  ordered = c.new-names.ensures.ordered;
  members = λ n. ap (λ ks. list_any (bytes_eq n) (map string_bytes ks)) c.new-names.ensures.empty ∙ sym (ap is_some (get-empty path_cmp (below c.args.folder.now (n ∷ []))));
  proper = ap (λ ks. list_all is_part (map string_bytes ks)) c.new-names.ensures.empty;
}

pub loop-placed-preserved : goal.loop-placed-preserved
loop-placed-preserved c = elim c.match-name_in.branch [
  | in-Some+in_ok-clone+in_ok-insert w ↦
      let text : string_bytes w.in-Some.name.now ≡ string_bytes w.in_ok-clone.field-0 = search rules in
      record {
        ordered = rw w.names-is w.in_ok-insert.ensures.ordered;
        members = rw (w.names-is, w.in_ok-insert.ensures.keys)
            (members-more _ _ c.args.folder.now c.args.nodes.now c.loop-placed.placed-index c.placed-item.result c.loop-placed-test.true
            (rw (← c.placed-item.is) (w.in-Some.ensures.inside ∙ ap (λ t. below c.args.folder.now (t ∷ [])) text)) c.loop-placed.invariant.members);
        proper = rw (w.names-is, w.in_ok-insert.ensures.keys) (all-insert_key is_part w.in_ok-clone.field-0 _ c.loop-placed.invariant.proper (ap is_part (sym text) ∙ w.in-Some.ensures.proper));
      }
  | in_default w ↦ record {
    ordered = rw w.names-is c.loop-placed.invariant.ordered;
    members = rw w.names-is
        (members-kept _ c.args.folder.now c.args.nodes.now c.loop-placed.placed-index c.placed-item.result c.loop-placed-test.true
        (rw (← c.placed-item.is) (sym w.in_default.ensures.test)) c.loop-placed.invariant.members);
    proper = rw w.names-is c.loop-placed.invariant.proper;
  }
]
