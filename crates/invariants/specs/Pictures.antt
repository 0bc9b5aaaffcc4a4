-- The header of a picture, as the code hands it on: where it is none, nothing is.
use Rattle.std.specs.Prelude.{true, Option, Some, None}
use Rattle.model.specs.declared.After.{After}
use Rattle.model.specs.declared.NetpbmHeader.{NetpbmHeader}
use Rattle.model.specs.PictureHeader.{PictureHeader}
use Rattle.model.specs.Basic.{pick}
use Rattle.model.specs.PictureHeader.{size_of}

-- one that was read, and the place after it
abbrev pub header_in : After NetpbmHeader → PictureHeader
header_in h =
    record {
      good = true;
      width = h.value.size.width;
      height = h.value.size.height;
      maximum = h.value.maximum;
      at = h.at;
    }

-- what is read of a header that was found, or not
abbrev pub header_of : PictureHeader → Option (After NetpbmHeader)
header_of h =
    pick h.good (Some (record { value = record { size = size_of h; maximum = h.maximum }; at = h.at })) None
