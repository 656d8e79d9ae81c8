-- The markup of pages (HTML, the living standard of WHATWG). Attributes stand in single quotes.
use Rattle.std.specs.Prelude.{ℕ, ◌-◌, nat_lt, List, [], ◌∷◌, ◌++◌, codes, slice_get, Option, None}
use Rattle.std.specs.Prelude.{if◌then◌else◌}
use Rattle.tm_terms.specs.Texts.{line_of}
use Rattle.page_pieces.specs.declared.markup.Markup.{Markup}
use Rattle.page_pieces.specs.declared.markup.Markup.TheVariants.{Head, Title, Count, Navigation, Alarms, Alarm}
use Rattle.page_pieces.specs.declared.markup.Markup.TheVariants.{Rule, Sentence, AlarmEnd, Sources, Line, Noted}
use Rattle.page_pieces.specs.declared.markup.Markup.TheVariants.{Opened, Unreached, Number, Code, LineEnd, Hidden, HiddenEnd, End}
use Rattle.page_pieces.specs.declared.markup.Markup.TheVariants.{Open, Heading, HeadingEnd, Dead, Group, SummaryEnd, GroupEnd}
use Rattle.page_pieces.specs.declared.markup.Markup.TheVariants.{Table, Column, HeadEnd, Row, Cell, RowEnd}
use Rattle.page_pieces.specs.declared.markup.Markup.TheVariants.{TableEnd, Link, Linked, LinkEnd, Note, NoteEnd}

-- what stands before the title: the kind and the coding of the page, and its style
unfoldable pub head_text : List ℕ
head_text =
    codes "<!doctype html><html lang='en'><head><meta charset='utf-8'>"
    ++ (codes "<meta name='viewport' content='width=device-width,initial-scale=1'><style>"
    ++ (codes ":root{color-scheme:light dark;--ground:#fff;--ink:#1b2026;--quiet:#56606a;--rule:#d5dae0;"
    ++ (codes "--soft:#f3f5f8;--link:#0a58a8;"
    ++ (codes "--alarm:#a8201a;--dead:#676f78;--open:#6a3d9e;--mark:#fdf1cc}"
    ++ (codes "@media (prefers-color-scheme:dark){:root{--ground:#15191d;--ink:#e4e8eb;--quiet:#9ba6b0;"
    ++ (codes "--rule:#343c44;--soft:#1e242a;"
    ++ (codes "--link:#74b6ff;--alarm:#ff9189;--dead:#8b96a1;--open:#c8a8f2;--mark:#3b3315}}"
    ++ (codes "*{box-sizing:border-box}body{margin:0;background:var(--ground);color:var(--ink);"
    ++ (codes "font:15px/1.5 system-ui,sans-serif}"
    ++ (codes "header,main{max-width:76rem;margin:0 auto;padding:0 1.2rem}main{padding-bottom:3rem}"
    ++ (codes "h1{font-size:1.5rem;margin:1rem 0 0;overflow-wrap:anywhere}h2{font-size:1.15rem;"
    ++ (codes "margin:1.8rem 0 .5rem}"
    ++ (codes "header p{margin:.1rem 0 .5rem;color:var(--quiet)}nav a{margin-right:1rem}a{color:var(--link)}"
    ++ (codes ":focus-visible{outline:2px solid var(--link);outline-offset:2px}"
    ++ (codes "table{border-collapse:collapse;width:100%;font-size:14px;margin:.3rem 0 .8rem}"
    ++ (codes "th,td{text-align:left;vertical-align:top;padding:.25rem .6rem;"
    ++ (codes "border-bottom:1px solid var(--rule);overflow-wrap:anywhere}"
    ++ (codes "th{color:var(--quiet)}b{color:var(--alarm);font:600 12px/1.5 ui-monospace,monospace}"
    ++ (codes "summary{cursor:pointer;padding:.3rem .6rem;background:var(--soft);"
    ++ (codes "border:1px solid var(--rule);overflow-wrap:anywhere}"
    ++ (codes "section{content-visibility:auto;contain-intrinsic-height:auto 60rem;overflow-clip-margin:6px}"
    ++ (codes "details{margin:.5rem 0}.scroll{overflow-x:auto}.line{display:flex;min-width:max-content}"
    ++ (codes ".noted,.line:target,:target+.line{background:var(--mark)}"
    ++ (codes ".number{flex:none;width:4.5em;padding-right:1em;text-align:right;color:var(--quiet);"
    ++ (codes "user-select:none}"
    ++ (codes ".line code,.number{font:13px/1.5 ui-monospace,Menlo,Consolas,monospace;white-space:pre;"
    ++ (codes "tab-size:4}"
    ++ (codes ".unreached code{color:var(--dead)}.unreached .number{border-right:3px double var(--dead)}"
    ++ (codes ".opened .number{border-right:3px dotted var(--open)}.open{color:var(--open)}"
    ++ (codes ".note,.dead,.open{margin:.1rem 0;font-size:13.5px}.note,.dead{color:var(--quiet)}"
    ++ (codes ".scroll .note,.scroll .dead,.scroll .open{padding:.05rem .6rem .05rem 5.2em;"
    ++ (codes "background:var(--soft)}"
    ++ (codes ".scroll .note+.note{border:0}.dead{font-style:italic}"
    ++ (codes "@media print{nav{display:none}section{content-visibility:visible}a{color:inherit}"
    ++ (codes ".line{min-width:0}.line code{"
    ++ (codes "white-space:pre-wrap}summary{list-style:none}}"
    ++ (codes "@media (max-width:40rem){.number{width:3em}"
    ++ (codes ".scroll .note,.scroll .dead,.scroll .open{padding-left:1rem}}"
    ++ (codes "</style><title>")))))))))))))))))))))))))))))))))))))))

unfoldable pub markup_text : Markup → List ℕ
markup_text Head = head_text
markup_text Title = codes "</title></head><body><header><h1>"
markup_text Count = codes "</h1><p>alarms: "
markup_text Navigation =
    line_of (codes "</p><nav aria-label='Parts of this page'><a href='#tables'>Summary</a><a href='#alarms'>"
    ++ (codes "Alarms</a>"
    ++ (codes "<a href='#sources'>Sources</a></nav></header><main><section id='tables' aria-label='Summary'>")))
markup_text Alarms =
    line_of (codes "</section><section id='alarms' aria-label='Alarms'><h2>All alarms</h2><table><thead><tr>"
    ++ (codes "<th scope='col'>Place</th>"
    ++ (codes "<th scope='col'>Class</th><th scope='col'>What may happen</th></tr></thead><tbody>")))
markup_text Alarm = codes "<tr><td><a href='#L"
markup_text Rule = codes "</a></td><td><b>"
markup_text Sentence = codes "</b></td><td>"
markup_text AlarmEnd = line_of (codes "</td></tr>")
markup_text Sources =
    codes "</tbody></table></section><section id='sources' aria-label='Sources'><h2>Sources</h2>"
    ++ (codes "<div class='scroll'>"
    ++ (codes "<details open><summary>"))
markup_text Line = codes "<div class='line' id='L"
markup_text Noted = codes "<div class='line noted' id='L"
markup_text Opened = codes "<div class='line opened' id='L"
markup_text Unreached = codes "<div class='line unreached' id='L"
markup_text Number = codes "'><span class='number'>"
markup_text Code = codes "</span><code>"
markup_text LineEnd = line_of (codes "</code></div>")
markup_text Hidden = codes "<span id='L"
markup_text HiddenEnd = codes "'></span>"
markup_text End = line_of (codes "</details></div></section></main></body></html>")
markup_text Open = codes "<p class='open'>"
markup_text Heading = codes "<h2>"
markup_text HeadingEnd = line_of (codes "</h2>")
markup_text Dead = codes "<p class='dead'>"
markup_text Group = codes "<details open><summary>"
markup_text SummaryEnd = line_of (codes "</summary>")
markup_text GroupEnd = line_of (codes "</details>")
markup_text Table = codes "<table><thead><tr><th scope='col'>"
markup_text Column = codes "</th><th scope='col'>"
markup_text HeadEnd = line_of (codes "</th></tr></thead><tbody>")
markup_text Row = codes "<tr><td>"
markup_text Cell = codes "</td><td>"
markup_text RowEnd = line_of (codes "</td></tr>")
markup_text TableEnd = line_of (codes "</tbody></table>")
markup_text Link = codes "<a href='#L"
markup_text Linked = codes "'>"
markup_text LinkEnd = codes "</a>"
markup_text Note = codes "<p class='note'>"
markup_text NoteEnd = line_of (codes "</p>")

-- the markup for which the bytes from 13 to 31 stand in texts that are composed
unfoldable pub composed_markup : List Markup
composed_markup =
    Open ∷ Heading ∷ HeadingEnd ∷ Dead ∷ Group ∷ SummaryEnd ∷ GroupEnd ∷ Table ∷ Column ∷ HeadEnd ∷ Row ∷ Cell
    ∷ RowEnd ∷ TableEnd ∷ Link ∷ Linked ∷ LinkEnd ∷ Note ∷ NoteEnd ∷ []

-- the markup for which a byte stands, if it stands for one
abbrev pub markup_of : ℕ → Option Markup
markup_of b = if nat_lt b 13 then None else slice_get composed_markup (b - 13)
