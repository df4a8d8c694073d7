-- Texts of the managers CLOG and MultiXact: PostgreSQL 16, src/backend/access/rmgrdesc/clogdesc.c and mxactdesc.c.
-- Own: "Names and texts of operations".
use Rattle.std.specs.Prelude.{ℕ, List, [], ◌++◌, codes, decimal, length}
use Rattle.record_layouts.specs.Clog.{clog_truncate_of, clog_zero_page_of}
use Rattle.record_layouts.specs.MultiXact.{multixact_create_of, multixact_truncate_of, multixact_zero_page_of}
use Rattle.record_layouts.specs.declared.clog.ClogOp.{ClogOp}
use Rattle.record_layouts.specs.declared.clog.ClogOp.TheVariants as op
use Rattle.record_layouts.specs.declared.clog.ClogTruncate.{ClogTruncate}
use Rattle.record_layouts.specs.declared.clog.ClogZeroPage.{ClogZeroPage}
use Rattle.record_layouts.specs.declared.multixact.MultiXactCreate.{MultiXactCreate}
use Rattle.record_layouts.specs.declared.multixact.MultiXactOp.{MultiXactOp}
use Rattle.record_layouts.specs.declared.multixact.MultiXactOp.TheVariants as multi
use Rattle.record_layouts.specs.declared.multixact.MultiXactTruncate.{MultiXactTruncate}
use Rattle.record_layouts.specs.declared.multixact.MultiXactZeroPage.{MultiXactZeroPage}
use Rattle.rmgr_desc.specs.Pieces.{or_short}

-- ZEROPAGE
abbrev pub clog_page_text : ClogZeroPage → List ℕ
clog_page_text zeroed = codes "page " ++ decimal zeroed.page

-- TRUNCATE
abbrev pub clog_cut_text : ClogTruncate → List ℕ
clog_cut_text cut = codes "page " ++ (decimal cut.page ++ (codes "; oldest xid " ++ decimal cut.oldest_xid))

-- the text of an operation of CLOG with these main bytes
abbrev pub clog_text : ClogOp → List ℕ → List ℕ
clog_text op.ZeroPage main = or_short clog_page_text (clog_zero_page_of main)
clog_text op.Truncate main = or_short clog_cut_text (clog_truncate_of main)
clog_text (op.Unlisted number) main = []

-- ZERO_OFF_PAGE and ZERO_MEM_PAGE
abbrev pub multixact_page_text : MultiXactZeroPage → List ℕ
multixact_page_text zeroed = codes "page " ++ decimal zeroed.page

-- CREATE_ID
abbrev pub multixact_made_text : MultiXactCreate → List ℕ
multixact_made_text made =
    codes "multi " ++ (decimal made.multi ++ (codes " offset " ++ (decimal made.offset ++ (codes " members "
    ++ decimal (length made.members)))))

-- TRUNCATE_ID
abbrev pub multixact_cut_text : MultiXactTruncate → List ℕ
multixact_cut_text cut =
    codes "multi [" ++ (decimal cut.first_multi ++ (codes ", " ++ (decimal cut.end_multi ++ (codes ") offset ["
    ++ (decimal cut.first_offset ++ (codes ", " ++ (decimal cut.end_offset ++ codes ")")))))))

-- the text of an operation of MultiXact with these main bytes
abbrev pub multixact_text : MultiXactOp → List ℕ → List ℕ
multixact_text multi.ZeroOffsetsPage main = or_short multixact_page_text (multixact_zero_page_of main)
multixact_text multi.ZeroMembersPage main = or_short multixact_page_text (multixact_zero_page_of main)
multixact_text multi.CreateId main = or_short multixact_made_text (multixact_create_of main)
multixact_text multi.TruncateId main = or_short multixact_cut_text (multixact_truncate_of main)
multixact_text (multi.Unlisted number) main = []
