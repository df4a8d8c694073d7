-- Each table is one of which clap promises which words it takes, and what it finds in them.
use Rattle.std.proofs.Common.{◌≡◌, refl, true}
use Rattle.clap.specs.Faults.{is_simple_and_free}
use Rattle.clap.proofs.OnLiterals.{clap_on_literals}
use Rattle.command_words.specs.Table.{command_with}
use Rattle.tool_words.specs.Archivecleanup.{archivecleanup_table}
use Rattle.tool_words.specs.Controldata.{controldata_table}
use Rattle.tool_words.specs.Pair.{pair_table}
use Rattle.tool_words.specs.Resetwal.{resetwal_table}
use Rattle.tool_words.specs.Rewind.{rewind_table}
use Rattle.tool_words.specs.Walcompare.{walcompare_table}
use Rattle.tool_words.specs.Waldump.{waldump_table}
use Rattle.tool_words.specs.Walreplay.{walreplay_table}

pub controldata_is_simple : is_simple_and_free (command_with controldata_table) ≡ true
unfolding controldata_table clap_on_literals
controldata_is_simple = refl

pub rewind_is_simple : is_simple_and_free (command_with rewind_table) ≡ true
unfolding rewind_table clap_on_literals
rewind_is_simple = refl

pub waldump_is_simple : is_simple_and_free (command_with waldump_table) ≡ true
unfolding waldump_table clap_on_literals
waldump_is_simple = refl

pub archivecleanup_is_simple : is_simple_and_free (command_with archivecleanup_table) ≡ true
unfolding archivecleanup_table clap_on_literals
archivecleanup_is_simple = refl

pub resetwal_is_simple : is_simple_and_free (command_with resetwal_table) ≡ true
unfolding resetwal_table clap_on_literals
resetwal_is_simple = refl

pub walreplay_is_simple : is_simple_and_free (command_with walreplay_table) ≡ true
unfolding walreplay_table clap_on_literals
walreplay_is_simple = refl

pub walcompare_is_simple : is_simple_and_free (command_with walcompare_table) ≡ true
unfolding walcompare_table clap_on_literals
walcompare_is_simple = refl

pub pair_is_simple : is_simple_and_free (command_with pair_table) ≡ true
unfolding pair_table clap_on_literals
pair_is_simple = refl
