use Rattle.tool_words.proofs.GrammarLemmas.{dry_run, further_word, long_names, no_help, no_source, no_target, source_first, target_first}
use Rattle.tool_words.proofs.laws.two_roots_are_read.Goals as goal

pub returns : goal.returns
returns c =
    let name = c.args.name.now in
    let target = c.args.target.now in
    let source = c.args.source.now in
    record {
      target_first = target_first name target source c.requires.target c.requires.source;
      source_first = source_first name target source c.requires.target c.requires.source;
      by_name = long_names name target source c.requires.target c.requires.source;
      dry = dry_run name target source c.requires.target c.requires.source;
      no_source = no_source name target c.requires.target;
      no_target = no_target name source c.requires.source;
      further = further_word name target source c.requires.target c.requires.source;
      help = no_help name;
    }
