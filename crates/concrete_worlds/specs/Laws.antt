-- Which layouts have worlds.
use Rattle.std.specs.Prelude.{◌≡◌, Ok}
use Rattle.tm_typed.specs.Files.{TypedFileTree}
use Rattle.tm_laid.specs.declared.layouts.Laid.{Laid}
use Rattle.tm_laid.specs.declared.scales.Scale.{Scale}
use Rattle.tm_laid.specs.Layouts.{laid_tree, laid_out}
use Rattle.tm_laid.specs.Layable.{IsLayable}
use Rattle.concrete_worlds.specs.Lawful.{HasWorlds}

-- what is laid out of a file that can be laid out in the order that the layout keeps
abbrev pub LaidFilesHaveWorlds : Type 0
LaidFilesHaveWorlds =
    (scale : Scale) (file : TypedFileTree) (laid : Laid) → laid_out scale file ≡ Ok (laid_tree laid)
    → IsLayable file laid.file.order.items → HasWorlds laid
