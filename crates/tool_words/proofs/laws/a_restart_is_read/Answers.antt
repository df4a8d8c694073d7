use Rattle.tool_words.proofs.ReplayLemmas.{flag_alone, flag_before, flag_behind, flag_twice, flag_with_value, no_help_of_replay, plain_root, two_roots}
use Rattle.tool_words.proofs.laws.a_restart_is_read.Goals as goal

pub returns : goal.returns
returns c =
    let name = c.args.name.now in
    let dir = c.args.dir.now in
    record {
      plain = plain_root name dir c.requires;
      before = flag_before name dir c.requires;
      behind = flag_behind name dir c.requires;
      twice = flag_twice name dir;
      attached = flag_with_value name dir;
      alone = flag_alone name;
      further = two_roots name dir c.requires;
      help = no_help_of_replay name;
    }
