use Rattle.tool_words.proofs.DumpLemmas.{list_is_read, no_help_of_dump, no_start, position_is_read, segment_is_read, start_is_read}
use Rattle.tool_words.proofs.laws.a_start_is_read.Goals as goal

pub returns : goal.returns
returns c =
    let name = c.args.name.now in
    record {
      segment = segment_is_read name c.args.word.now c.requires.word;
      by_letter = start_is_read name c.args.at.now c.requires.at;
      attached = position_is_read name c.args.dir.now c.args.at.now;
      list = list_is_read name;
      neither = no_start name;
      help = no_help_of_dump name;
    }
