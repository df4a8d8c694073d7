use Rattle.tool_words.proofs.GrammarLemmas.{dry_resume, resume, resume_twice}
use Rattle.tool_words.proofs.laws.a_resume_is_read.Goals as goal

pub returns : goal.returns
returns c =
    let name = c.args.name.now in
    let target = c.args.target.now in
    let source = c.args.source.now in
    record {
      resume = resume name target source c.requires.target c.requires.source;
      dry = dry_resume name target source c.requires.target c.requires.source;
      twice = resume_twice name target source c.requires.target c.requires.source;
    }
